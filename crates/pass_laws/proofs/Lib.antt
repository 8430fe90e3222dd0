-- Lemmas.
pub mod Those
pub mod Remaining
pub mod Unchanged
pub mod FreshOnce
pub mod LoweredTwice
pub mod Composed
pub mod Shapes
pub mod Steady
pub mod Steps
pub mod FitWithoutWires
