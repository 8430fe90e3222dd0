pub mod Satisfying
pub mod Keeping
