pub mod Graphs
pub mod Marks
pub mod Orders
