-- Lemmas.
pub mod NumberedBodies
pub mod UsedConstants
pub mod UserEnds
pub mod GroupSteps
pub mod PortSteps
pub mod MadeOps
pub mod BelowBodies
