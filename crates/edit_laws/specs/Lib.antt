pub mod Edit
pub mod Falls
pub mod Follows
pub mod Laws
pub mod Registers
pub mod Resets
