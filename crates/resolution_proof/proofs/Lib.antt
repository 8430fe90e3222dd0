pub mod Sets
pub mod Pigeons
pub mod Chains
pub mod Laws
pub mod Counting
