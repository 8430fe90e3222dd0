pub mod Sums
pub mod RegisterWidths
