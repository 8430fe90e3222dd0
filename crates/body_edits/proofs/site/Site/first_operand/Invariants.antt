use Rattle.std.proofs.Common.{◌≡◌, map, drop}
use Rattle.fold_laws.specs.Constants.{is_constant_where}
use Rattle.fold_laws.specs.Standing.{first_operand}
use Rattle.body_edits.specs.Sites.{ops_at, ref_at, refs_at}
use Rattle.body_edits.specs.Tests.{test_of}
use Rattle.body_edits.proofs.site.Site.first_operand.Given as goal

abbrev pub invariant-loop-value : goal.invariant-loop-value
invariant-loop-value l =
    first_operand (is_constant_where (test_of l.test) (ops_at l.self)) (map (ref_at l.self) (drop l.value-index l.self.op.operands.now))
    ≡ first_operand (is_constant_where (test_of l.test) (ops_at l.self)) (refs_at l.self)
