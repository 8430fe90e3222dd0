-- Lemmas.
pub mod Booleans
pub mod Joining
pub mod Least
pub mod Making
pub mod Numbering
pub mod Operands
pub mod Pairs
pub mod Unlocated
pub mod Reaching
pub mod ResetTests
pub mod Seeing
pub mod Symbols
