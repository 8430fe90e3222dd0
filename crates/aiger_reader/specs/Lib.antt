pub mod Saturated
pub mod Headers
pub mod Kept
pub mod Told
pub mod Searched
