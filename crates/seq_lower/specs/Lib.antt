pub mod Lowered
pub mod LoweredOps
pub mod NewOps
pub mod Puts
