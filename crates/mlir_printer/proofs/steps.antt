pub mod Entries
pub mod Passing
pub mod Runs
pub mod Showing
pub mod Steps
