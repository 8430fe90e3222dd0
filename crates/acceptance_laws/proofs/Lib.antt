-- Lemmas.
pub mod Causes
pub mod Modules
pub mod Resets
pub mod ResetsKept
pub mod Accepted
pub mod Edited
pub mod ModuleRemoved
pub mod NameCounts
pub mod FitBodies
pub mod Values
pub mod Ends
pub mod ChangedInPlace
pub mod TakenOut
pub mod PutIn
pub mod FitModules
