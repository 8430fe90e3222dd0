pub mod ResultTypes
pub mod SettledTypes
