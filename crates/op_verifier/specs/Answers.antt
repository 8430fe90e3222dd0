-- Answers that stand one after another: the first that is there counts.
pub use Rattle.port_checks.specs.Answers.{when, or_else}
