-- Lemmas.
pub mod AcceptedDesigns
pub mod Distinct
pub mod EntryWalks
pub mod FaultSteps
pub mod Found
pub mod InputResets
pub mod Names
pub mod NoFaults
pub mod Unlocated
pub mod UnlocatedFaults
pub mod Positions
pub mod ResetJoins
pub mod SoundDesigns
pub mod Symbols
pub mod Unrefused
pub mod WholeDesigns
pub mod NoCauseAlone
