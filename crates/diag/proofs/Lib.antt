-- Lemmas that several proofs of this crate share.
pub mod Sending
pub mod Puts
