pub mod Answers
pub mod InstanceChecks
pub mod Joins
pub mod Marked
pub mod Numbers
pub mod Pairs
pub mod ResetPorts
pub mod Seen
