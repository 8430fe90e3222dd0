-- The words of this crate's contracts.
pub mod Bytes
pub mod Limits
pub mod Constants
pub mod Dictionaries
pub mod Kinds
pub mod ResultTypes
pub mod Canonical
pub mod Fields
pub mod Followed
pub mod Alone
