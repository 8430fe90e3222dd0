pub mod QuietWords
pub mod QuietTypes
pub mod QuietOperations
pub mod QuietNames
pub mod WholeLines
pub mod TextLines
