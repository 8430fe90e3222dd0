pub mod EntryOrder
pub mod ReadBytes
pub mod ReadElements
pub mod ReadModules
pub mod ReadOperations
pub mod TokenCounts
