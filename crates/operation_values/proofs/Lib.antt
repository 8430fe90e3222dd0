-- Lemmas.
pub mod Pieces
pub mod IntegerWords
