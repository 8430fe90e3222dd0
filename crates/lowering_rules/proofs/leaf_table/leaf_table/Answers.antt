use Rattle.std.proofs.Common.{sym, subst, ◌∙◌}
use Rattle.ir_store.specs.Bodies.{ids_of}
use Rattle.ir_store.specs.Designs.{ports_in}
use Rattle.ir_store.specs.Live.{AreDistinct}
use Rattle.body_index.specs.PositionTables.{ArePositions}
use Rattle.ir_store.proofs.BodyLemmas.{ids_once}
use Rattle.body_index.proofs.PositionTables.{ids_same}
use Rattle.aggregate_laws.specs.LeafPorts.{split_ports}
use Rattle.aggregate_laws.specs.Aggregates.{aggregate_rules}
use Rattle.lowering_rules.proofs.TableValues.{leaves_are}
use Rattle.lowering_rules.proofs.leaf_table.leaf_table.Goals as goal

pub positions_of-requires : goal.positions_of-requires
positions_of-requires c =
    let b = c.args.body.now in
    subst AreDistinct (sym (ids_same c.as_slice.result.now (ids_of b) (c.as_slice.ensures.value ∙ c.in_ok-ids.ensures))) (ids_once b)

pub returns : goal.returns
returns c named =
    let b = c.args.body.now in
    let same = ids_same c.as_slice.result.now (ids_of b) (c.as_slice.ensures.value ∙ c.in_ok-ids.ensures) in
    let table : ArePositions (ids_of b) c.in_ok-positions.positions.items = subst (λ is. ArePositions is c.in_ok-positions.positions.items) same c.in_ok-positions.ensures in
    let blocks = c.in_ok-blocks.ensures named in
    record {
      ids = c.in_ok-ids.ensures;
      starts = blocks.starts;
      ends = blocks.ends;
      values = leaves_are (aggregate_rules split_ports named) (ports_in c.args.ports.now) b
          (record { ids = c.in_ok-ids.ids; positions = c.in_ok-positions.positions; ports = c.in_ok-leaves.leaves; results = c.in_ok-blocks.blocks.results; starts = c.in_ok-blocks.blocks.starts; ends = c.in_ok-blocks.blocks.ends })
          table c.in_ok-leaves.ensures blocks.results;
    }
