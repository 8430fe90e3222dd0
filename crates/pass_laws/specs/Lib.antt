pub mod PassLaw
pub mod Remaining
pub mod Steady
pub mod Steps
