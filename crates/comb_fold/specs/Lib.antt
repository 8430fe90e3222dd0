pub mod Choices
pub mod Patterns
pub mod Evaluable
pub mod Joins
pub mod Merges
