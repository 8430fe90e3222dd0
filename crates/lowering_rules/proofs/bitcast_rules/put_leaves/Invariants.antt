use Rattle.std.proofs.Common.{◌≡◌, ◌++◌, map, drop}
use Rattle.hw_model.specs.TypeViews.{type_of}
use Rattle.lowering_rules.specs.Made.{made_in}
use Rattle.lowering_rules.specs.Pieces.{code_piece}
use Rattle.lowering_rules.specs.PieceRules.{leaf_views}
use Rattle.lowering_rules.specs.Reading.{plain_of, new_refs}
use Rattle.lowering_rules.proofs.bitcast_rules.put_leaves.Given as goal

abbrev pub invariant-loop-number : goal.invariant-loop-number
invariant-loop-number l =
    made_in l.made.items ++ leaf_views (plain_of l.op) (new_refs l.values) (map type_of l.types) (map (λ ps. map code_piece ps.items) l.all) l.number l.next (map type_of (drop l.number l.leaves))
    ≡ made_in l.fn.made.items ++ leaf_views (plain_of l.op) (new_refs l.values) (map type_of l.types) (map (λ ps. map code_piece ps.items) l.all) 0 l.start (map type_of l.leaves)
