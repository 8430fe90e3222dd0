pub mod NetGateLists
pub mod NetOrder
pub mod NetPrices
pub mod Miters
pub mod RegisterGateLists
pub mod ClockedInputs
pub mod RegisterPrices
pub mod RegisterMiters
