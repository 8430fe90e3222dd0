-- The words of this crate's contracts.
pub mod Usage
pub mod Normal
pub mod Commands
pub mod Arguments
pub mod Numbers
pub mod Line
pub mod Making
pub mod Invocations
