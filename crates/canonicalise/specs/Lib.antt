pub mod Canonical
pub mod Dues
pub mod Runs
pub mod Settled
pub mod Sweeps
pub mod Kept
pub mod Reach
