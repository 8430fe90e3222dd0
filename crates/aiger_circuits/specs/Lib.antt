pub mod CircuitTrees
pub mod CircuitTexts
pub mod Written
