pub mod Tables
mod Filtered
mod LeafRuns
