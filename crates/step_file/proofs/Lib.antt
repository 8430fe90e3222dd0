pub mod ReadDigits
pub mod ReadLiterals
pub mod ReadRows
pub mod RowWidths
