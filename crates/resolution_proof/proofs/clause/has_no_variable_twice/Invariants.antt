use Rattle.std.proofs.Common.{◌≡◌, length}
use Rattle.resolution_proof.specs.Literal.{is_once}
use Rattle.resolution_proof.proofs.clause.has_no_variable_twice.Given as goal

abbrev pub invariant-loop-first : goal.invariant-loop-first
invariant-loop-first l = is_once l.literals ≡ is_once l.rest

abbrev pub decreases-loop-first : goal.decreases-loop-first
decreases-loop-first l = length l.rest
