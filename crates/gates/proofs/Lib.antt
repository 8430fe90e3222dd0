pub mod Carrying
pub mod SingleBits
pub mod Running
pub mod AndGates
pub mod Instances
pub mod Tseitin
pub mod Evaluation
