use Rattle.std.proofs.Common.{◌≡◌, is_some, map, drop}
use Rattle.fold_laws.specs.Evaluated.{constants_at}
use Rattle.body_edits.specs.Sites.{ops_at, ref_at, refs_at}
use Rattle.comb_fold.proofs.evaluated.are_constants.Given as goal

abbrev pub invariant-loop-value : goal.invariant-loop-value
invariant-loop-value l =
    is_some (constants_at (ops_at l.site) (map (ref_at l.site) (drop l.value-index l.site.op.operands.now)))
    ≡ is_some (constants_at (ops_at l.site) (refs_at l.site))
