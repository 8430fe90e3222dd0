use Rattle.std.proofs.Common.{ℕ, ◌<◌}
use Rattle.aiger_reader.specs.Searched.{lists_in, IsLooping}
use Rattle.aiger_reader.proofs.cycles.first_looping.Given as goal

abbrev pub invariant-loop-place : goal.invariant-loop-place
invariant-loop-place l = (j : ℕ) → j < l.place → IsLooping (lists_in l.needs) j → ⊥
