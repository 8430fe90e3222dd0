-- Lemmas.
pub mod PositionTables
pub mod ReadOps
