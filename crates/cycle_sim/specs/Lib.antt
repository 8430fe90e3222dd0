pub mod RunLines
pub mod Simulations
pub mod FlatRuns
