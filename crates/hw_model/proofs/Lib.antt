-- Lemmas.
pub mod Machines
pub mod Sorts
pub mod Paths
pub mod Widths
pub mod NetWidths
pub mod Finite
pub mod Depths
pub mod Evaluation
pub mod FieldSums
pub mod SameFields
pub mod Operands
pub mod SameLiterals
pub mod Samples
mod Values
pub mod Opcodes
pub mod Locations
pub mod Weights
pub mod Content
pub mod Gone
pub mod Resets
pub mod Agreeing
pub mod WrittenTypes
