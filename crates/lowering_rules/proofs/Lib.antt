-- Lemmas.
pub mod LeafNames
pub mod BareKinds
pub mod Shaping
pub mod Cutting
pub mod PieceOps
pub mod NamedInstances
pub mod ForEach
pub mod ResetOperands
pub mod IndexBits
pub mod Offsets
pub mod OwnNames
pub mod ChoiceSteps
pub mod TableEntries
pub mod SameRules
pub mod TableRules
pub mod BlockSteps
pub mod TableValues
