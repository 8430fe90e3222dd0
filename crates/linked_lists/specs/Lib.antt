pub mod Chains
pub mod Ids
pub mod Links
