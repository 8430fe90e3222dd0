pub mod Literals
pub mod Rows
pub mod StepFile
pub mod Digits
pub mod Answers
