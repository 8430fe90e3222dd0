use Rattle.std.proofs.Common.{◌≡◌, ◌++◌, map, drop, option_map}
use Rattle.fold_laws.specs.Evaluated.{constants_at}
use Rattle.body_edits.specs.Sites.{ops_at, ref_at, refs_at}
use Rattle.comb_fold.proofs.evaluated.words_of.Given as goal

abbrev pub invariant-loop-value : goal.invariant-loop-value
invariant-loop-value l =
    constants_at (ops_at l.site) (refs_at l.site)
    ≡ option_map (λ ws. l.words.items ++ ws) (constants_at (ops_at l.site) (map (ref_at l.site) (drop l.value-index l.site.op.operands.now)))
