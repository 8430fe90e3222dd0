pub mod Verdicts
pub mod LeafNames
pub use Rattle.miter_blast.specs.Comparable
pub use Rattle.miter_blast.specs.Comparisons
