pub mod Tables
pub mod Steps
pub mod Plans
pub mod Holds
pub mod Runs
