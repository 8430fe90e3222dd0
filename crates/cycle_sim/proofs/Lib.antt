pub mod CopyRuns
pub mod OutputLines
pub mod TableRuns
