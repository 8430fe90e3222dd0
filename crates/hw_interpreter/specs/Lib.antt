pub mod Depth
pub mod DesignViews
pub mod Ranges
pub mod Registers
pub mod SuitsWithin
