-- The words of this crate's contracts.
pub mod Classes
pub mod Runs
pub mod Strings
pub mod Prefixes
pub mod Cursor
pub mod Flat
pub mod Tokens
pub mod Contents
pub mod TokenKinds
