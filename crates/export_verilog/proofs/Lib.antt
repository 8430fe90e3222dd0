pub mod text
pub mod items
pub mod names
pub mod behaviour
pub mod checks
pub mod accepted
pub mod Sharing
