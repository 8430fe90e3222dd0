use Rattle.std.proofs.Common.{◌≡◌, map, drop}
use Rattle.std.specs.Prelude.{option_map}
use Rattle.fold_laws.specs.Nested.{first_nested}
use Rattle.body_edits.specs.Nests.{kind_test, later}
use Rattle.body_edits.specs.Sites.{ops_at, ref_at, refs_at}
use Rattle.body_edits.specs.Views.{position_in}
use Rattle.body_edits.proofs.nested.first_nested.Given as goal

abbrev pub invariant-loop-number : goal.invariant-loop-number
invariant-loop-number l =
    first_nested (kind_test l.kinds) (ops_at l.site) (position_in l.site.body.now l.id) (refs_at l.site)
    ≡ option_map (later l.number) (first_nested (kind_test l.kinds) (ops_at l.site) (position_in l.site.body.now l.id) (map (ref_at l.site) (drop l.number l.site.op.operands.now)))
