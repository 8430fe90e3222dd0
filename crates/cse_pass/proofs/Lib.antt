-- Lemmas.
pub mod ConstantTypes
pub mod ConstantWords
pub mod EqualParts
pub mod EqualPositions
pub mod Following
pub mod Images
pub mod Leading
pub mod MergedBefore
pub mod MergedFits
pub mod MergeRuns
pub mod Merging
pub mod NoEqual
pub mod Once
pub mod Places
pub mod Remnants
pub mod TrimmedBefore
pub mod UnusedAggregates
pub mod UnusedOps
mod SameNumbers
mod SameParts
mod SameOps
mod SameHashes
mod EqualFinding
mod Grouping
mod EarlierEqual
mod Walking
mod MergedBodies
mod MergedVisits
mod Sweeping
mod InOrder
mod Trimming
pub mod Samples
