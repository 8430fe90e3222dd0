-- Lemmas.
pub mod FitPatterns
pub mod StandingPatterns
pub mod PatternsInFit
pub mod FirstStands
pub mod NestedPattern
pub mod PutJoined
pub mod JoinedPattern
pub mod HasJoined
pub mod EvaluatedOps
pub mod JoinedOps
pub mod JoinPatterns
pub mod FitExtracts
