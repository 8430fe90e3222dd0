-- The words of this crate's contracts.
pub mod PlainNumbers
pub mod Resolving
pub mod Reading
pub mod Meanings
pub mod Marked
pub mod Drafts
pub mod Held
pub mod ModuleViews
pub mod EndViews
pub mod Spelling
pub mod Locality
