-- The words of this crate's contracts.
pub mod OperandText
pub mod ElementText
pub mod OperationText
pub mod ModuleText
pub mod Views
pub mod NameClasses
pub mod ElementHeads
pub mod Spelling
pub mod PortForms
