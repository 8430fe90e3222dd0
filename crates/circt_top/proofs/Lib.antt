pub mod Answered
pub mod Read
pub mod ReadOrder
pub mod Completed
mod Reported
mod Ends
mod Subjects
pub mod Stops
mod Checks
mod Simulations
mod Imports
mod Exports
mod Starving
pub mod Answers
pub mod Within
mod Partners
mod SourceBehaviour
pub mod OutcomeParts
pub mod Cuts
mod CutAgain
pub mod PieceTexts
pub mod GenerationPasses
pub mod Generated
mod Compared
