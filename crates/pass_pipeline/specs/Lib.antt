-- The words of this crate's contracts.
pub mod Passes
pub mod Tokens
pub mod Steps
pub mod Pipelines
pub mod Grammar
