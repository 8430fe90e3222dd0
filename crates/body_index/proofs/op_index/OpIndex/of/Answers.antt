use Rattle.std.proofs.Common.{subst, ap, sym, ◌∙◌}
use Rattle.ir_store.specs.Bodies.{ids_of}
use Rattle.ir_store.specs.Live.{AreDistinct}
use Rattle.ir_store.proofs.BodyLemmas.{ids_once}
use Rattle.body_index.specs.PositionTables.{ArePositions}
use Rattle.body_index.proofs.PositionTables.{indices, ids_same}
use Rattle.body_index.proofs.op_index.OpIndex.of.Goals as goal

pub positions_of-requires : goal.positions_of-requires
positions_of-requires c =
    subst AreDistinct (sym (ap indices c.as_slice.ensures.value ∙ ids_same c.in_ok-ids.ids.items (ids_of c.args.body.now) c.in_ok-ids.ensures)) (ids_once c.args.body.now)

pub invariant_of-result : goal.invariant_of-result
invariant_of-result c = record {
  all = c.in_ok-ids.ensures;
  known = subst (λ xs. ArePositions xs c.in_ok-positions.positions.items)
      (ap indices c.as_slice.ensures.value ∙ ids_same c.in_ok-ids.ids.items (ids_of c.args.body.now) c.in_ok-ids.ensures) c.in_ok-positions.ensures;
}
