-- Lemmas that several proofs of this crate and of those above share.
pub mod Ports
pub mod Operands
pub mod Classes
pub mod Joining
pub mod AgainOperands
pub mod AgainElements
pub mod AgainForms
pub mod FormStarts
pub mod AgainOperations
pub mod SoundOperands
pub mod SoundElements
pub mod SoundOperations
pub mod LocalOperands
