-- The words of this crate's contracts.
pub mod Building
pub mod Extensions
pub mod Expressions
pub mod Spilling
pub mod Values
pub mod Scopes
pub mod Marks
pub mod PartTables
pub mod Named
pub mod Forms
pub mod Places
pub mod Templates
pub mod ExprNode
pub mod Parentheses
pub mod Signs
pub mod WireRules
