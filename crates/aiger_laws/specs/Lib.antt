pub mod Trees
pub mod Drivers
pub mod Steps
pub mod Fields
pub mod Rows
pub mod Grammar
