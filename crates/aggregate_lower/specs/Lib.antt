pub mod Targets
pub mod Settling
pub mod Lowering
pub mod MadeBodies
