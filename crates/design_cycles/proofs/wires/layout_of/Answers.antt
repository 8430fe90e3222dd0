use Rattle.std.proofs.Common.{map}
use Rattle.ir_store.specs.Bodies.{ops_of}
use Rattle.ir_store.specs.Numbered.{ops_by_position}
use Rattle.ir_store.specs.Designs.{StoredModule, modules_of}
use Rattle.design_cycles.specs.Nodes.{bit_sets_by, sizes_in}
use Rattle.design_cycles.proofs.Pushing.{ids_distinct, layout_is}
use Rattle.design_cycles.proofs.wires.layout_of.Goals as goal

pub positions_of-requires : goal.positions_of-requires
positions_of-requires c = ids_distinct c.args.scope.now.body.now c.args.scope.now.ids.now c.args.scope.now.all

pub returns-clause-layout : goal.returns-clause-layout
returns-clause-layout c =
    layout_is c.args.scope.now.body.now c.args.scope.now.ids.now c.args.scope.now.all c.args.ports
    (sizes_in (bit_sets_by (map (λ (m : StoredModule). m.symbol) (modules_of c.args.scope.now.design.now)) c.args.scope.now.summaries.now) (ops_by_position (ops_of c.args.scope.now.body.now)))
    (record { ports = c.in-Ok.ports; spans = c.in_ok-spans.spans; positions = c.in_ok-positions.positions }) c.in-Ok.ensures.1 c.in_ok-spans.ensures c.in_ok-positions.ensures
