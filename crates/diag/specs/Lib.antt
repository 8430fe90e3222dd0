-- The words of this crate's contracts.
pub mod Location
pub mod Cause
pub mod Line
pub mod Puts
