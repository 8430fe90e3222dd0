pub mod Literal
pub mod Clause
pub mod Formula
pub mod Replay
pub mod Fresh
pub mod Regular
pub mod Proof
