pub mod Joins
pub mod Marks
pub mod Names
