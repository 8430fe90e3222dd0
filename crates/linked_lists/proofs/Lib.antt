-- Lemmas.
pub mod ChainCalls
pub mod ChainLists
pub mod Chaining
pub mod IdLemmas
pub mod Linking
