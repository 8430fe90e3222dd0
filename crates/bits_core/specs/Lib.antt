pub mod Fields
pub mod SameWord
pub mod Word
