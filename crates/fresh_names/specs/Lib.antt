-- The words of this crate's contracts.
pub mod Fresh
pub mod Different
pub mod Tried
pub mod TakenViews
