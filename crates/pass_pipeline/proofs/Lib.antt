-- Lemmas that several proofs of this crate share.
pub mod Reading
pub mod Language
