-- The words of this crate's contracts.
pub mod Stream
pub mod Reads
pub mod Numerals
pub mod TypeText
pub mod AttributeText
pub mod WordText
pub mod LiteralText
pub mod Views
pub mod Heads
pub mod TypeHeads
pub mod AttributeHeads
pub mod LiteralHeads
pub mod Spelling
