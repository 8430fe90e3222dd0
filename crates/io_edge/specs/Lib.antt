-- The words of this crate's contracts.
pub mod Faults
pub mod Bytes
pub mod Pieces
pub mod SinkState
pub mod RealState
pub mod Reading
pub mod Writing
pub mod FilesState
pub mod Listed
pub mod Source
