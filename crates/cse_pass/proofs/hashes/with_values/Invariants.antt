use Rattle.std.proofs.Common.{◌≡◌, drop}
use Rattle.cse_pass.specs.Hashes.{with_values}
use Rattle.cse_pass.proofs.hashes.with_values.Given as goal

abbrev pub invariant-loop-value : goal.invariant-loop-value
invariant-loop-value l = with_values l.all (drop l.value-index l.values) ≡ with_values l.hash l.values
