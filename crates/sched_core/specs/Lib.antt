pub mod Sums
pub mod State
pub mod Events
pub mod Sound
pub mod Runs
pub mod Counts
pub mod Table
pub mod Views
