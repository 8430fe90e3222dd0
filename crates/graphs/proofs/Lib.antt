-- Lemmas.
pub mod Lists
pub mod Marking
pub mod Placing
pub mod Ranked
pub mod Repeated
