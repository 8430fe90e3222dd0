pub mod Operations
pub mod Positions
pub mod Built
