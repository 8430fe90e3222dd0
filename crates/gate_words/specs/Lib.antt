pub mod GateLists
pub mod Computes
pub mod Bitwise
pub mod Directions
