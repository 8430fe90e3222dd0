use Rattle.std.proofs.Common.{◌≡◌, drop}
use Rattle.pass_pipeline.specs.Passes.{pass_named}
use Rattle.pass_pipeline.proofs.pass.pass_named.Given as goal

abbrev pub invariant-loop-pass : goal.invariant-loop-pass
invariant-loop-pass l = pass_named l.offered l.name ≡ pass_named (drop l.pass-index l.offered) l.name
