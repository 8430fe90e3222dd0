pub mod AcceptedBodies
pub mod AcceptedDivisions
pub mod AcceptedExports
pub mod AcceptedOps
pub mod AcceptedTypes
pub mod AcceptedValues
pub mod AcceptedWeights
pub mod NoAggregates
