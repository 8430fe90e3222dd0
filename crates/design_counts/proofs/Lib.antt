-- Lemmas.
pub mod Totals
pub mod RegisterWalks
