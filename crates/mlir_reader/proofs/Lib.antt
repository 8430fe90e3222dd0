-- Lemmas that several proofs of this crate share.
mod AgainModules
mod AgainTexts
mod BodySteps
mod BodyTexts
mod Constants
pub mod Defining
pub mod Unfound
mod Drafting
mod KeyOrder
mod Modules
mod Moving
mod PlainNumbers
mod Positions
mod Sorting
mod Tables
pub mod Bodies
pub mod Files
mod Examples
pub mod ResultCounts
mod LocalModules
mod LocalOperations
mod SoundModules
pub mod canonical
