pub mod BitNames
pub mod PublicModules
pub mod Exports
pub mod Named
pub mod Runs
