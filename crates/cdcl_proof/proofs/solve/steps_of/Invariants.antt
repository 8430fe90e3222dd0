use Rattle.std.proofs.Common.{◌≡◌, ◌++◌, length, reverse}
use Rattle.cdcl_proof.specs.Store.{steps_of}
use Rattle.cdcl_proof.proofs.solve.steps_of.Given as goal

abbrev pub invariant-loop-hints : goal.invariant-loop-hints
invariant-loop-hints l = (length l.chains.items ≡ length l.clauses.items) × (steps_of l.fn.chains.items l.fn.clauses.items ≡ steps_of l.chains.items l.clauses.items ++ reverse l.steps.items)

abbrev pub decreases-loop-hints : goal.decreases-loop-hints
decreases-loop-hints l = length l.chains.items
