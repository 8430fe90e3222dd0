use Rattle.pass_pipeline.proofs.Reading.{IsReading}
use Rattle.pass_pipeline.proofs.pipeline.read_pipeline.Given as goal

abbrev pub invariant-loop-at : goal.invariant-loop-at
invariant-loop-at l = IsReading l.offered l.text l.passes.items l.expected l.following l.at
