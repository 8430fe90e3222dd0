pub mod Signals
pub mod Build
pub mod Circuits
pub mod Order
pub mod Clauses
