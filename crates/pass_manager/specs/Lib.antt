pub mod Results
pub mod Visits
pub mod Works
pub mod PublicModules
pub mod Flats
pub use Rattle.aggregate_lower.specs.Lowering
