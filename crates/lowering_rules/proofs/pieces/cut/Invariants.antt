use Rattle.std.proofs.Common.{◌+◌, length}
use Rattle.lowering_rules.proofs.Cutting.{IsCutting}
use Rattle.lowering_rules.proofs.pieces.cut.Given as goal

abbrev pub invariant-loop-first : goal.invariant-loop-first
invariant-loop-first l = IsCutting l.before l.size l.pieces.items l.rest l.left

abbrev pub decreases-loop-first : goal.decreases-loop-first
decreases-loop-first l = length l.rest.types.now + l.left
