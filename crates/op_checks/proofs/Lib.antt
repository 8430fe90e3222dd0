-- Lemmas.
pub mod Agreeing
pub mod FitArrays
pub mod FitIntegers
pub mod FitStructs
pub mod Fitting
pub mod Lists
pub mod Mismatch
pub mod NoOwnCause
pub mod Owned
pub mod Settled
pub mod Widths
