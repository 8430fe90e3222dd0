-- Lemmas.
pub mod AcceptedDesigns
pub mod Built
pub mod Callees
pub mod CanonicalModules
pub mod ChosenKinds
pub mod FirstOps
pub mod GeneratedModules
pub mod NetHeights
pub mod NumberedBodies
pub mod OpCauses
pub mod Samples
pub mod Steps
pub mod Unrefused
