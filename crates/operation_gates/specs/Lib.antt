pub mod OperationGateLists
pub mod Operands
pub mod Prices
pub mod WordOrder
