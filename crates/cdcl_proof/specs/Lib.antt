pub mod Store
pub mod Order
pub mod Search
pub mod Sweeping
pub mod Answer
