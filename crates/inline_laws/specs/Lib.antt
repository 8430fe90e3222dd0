pub mod Inline
pub mod Unwire
