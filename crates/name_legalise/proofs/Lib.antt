pub mod Members
pub mod Suffixes
pub mod Least
pub mod Tables
pub mod Taking
pub mod NameBytes
pub mod Grouped
pub mod Legals
