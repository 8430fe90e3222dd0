pub mod OpIndexes
pub mod PositionTables
