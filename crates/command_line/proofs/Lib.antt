-- Lemmas that several proofs of this crate share.
pub mod Making
pub mod Numerals
pub mod Parsed
pub mod Said
