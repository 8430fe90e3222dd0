pub mod Samples
pub mod DriverPlaces
pub mod MoreDrivers
pub mod GateDrivers
pub mod OneStep
pub mod OneFault
pub mod Lengths
pub mod DefinedTexts
