-- The words of this crate's contracts.
pub mod Legal
pub mod Words
pub mod WordViews
pub mod Kept
pub mod LegalViews
