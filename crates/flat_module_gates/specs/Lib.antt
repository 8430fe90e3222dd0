pub mod Orders
pub mod FlatGateLists
pub mod FlatSteps
pub mod Stepped
