-- Lemmas.
pub mod Contents
pub mod Counts
pub mod Samples
pub mod Steps
pub mod Suiting
pub mod Within
