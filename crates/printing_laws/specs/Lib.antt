-- The words of this crate's contracts.
pub mod Numbers
pub mod Parts
pub mod NameHints
pub mod Printable
