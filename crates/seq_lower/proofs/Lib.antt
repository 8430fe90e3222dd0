-- Lemmas.
pub mod Following
pub mod Loading
pub mod MuxPutIn
pub mod MuxSteps
pub mod OneRegister
pub mod Plain
pub mod PlainRegister
pub mod PutBefore
pub mod PutInPlace
pub mod RegisterFacts
pub mod RegisterOperands
pub mod Samples
pub mod Sweeping
