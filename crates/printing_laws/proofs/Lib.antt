pub mod NameCounts
pub mod VerifiedDesigns
