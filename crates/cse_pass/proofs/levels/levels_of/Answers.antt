use Rattle.std.proofs.Common.{subst, ap, sym, ◌∙◌}
use Rattle.ir_store.specs.Bodies.{ids_of}
use Rattle.ir_store.specs.Live.{AreDistinct}
use Rattle.ir_store.proofs.BodyLemmas.{ids_once}
use Rattle.body_index.specs.PositionTables.{ArePositions}
use Rattle.body_index.proofs.PositionTables.{indices, ids_same}
use Rattle.cse_pass.proofs.InOrder.{order_first}
use Rattle.cse_pass.proofs.levels.levels_of.Goals as goal

pub positions_of-requires : goal.positions_of-requires
positions_of-requires c =
    subst AreDistinct (sym (ap indices c.as_slice.ensures.value ∙ ids_same c.in_ok-ids.ids.items (ids_of c.args.body.now) c.in_ok-ids.ensures)) (ids_once c.args.body.now)

pub returns : goal.returns
returns c =
    order_first c.args.body.now c.in_ok-places.places.items
    (subst (λ xs. ArePositions xs c.in_ok-places.places.items)
    (ap indices c.as_slice.ensures.value ∙ ids_same c.in_ok-ids.ids.items (ids_of c.args.body.now) c.in_ok-ids.ensures) c.in_ok-places.ensures)
