use Rattle.std.proofs.Common.{◌≡◌, map}
use Rattle.ir_store.specs.Bodies.{ops_of}
use Rattle.ir_store.specs.Numbered.{ops_by_position}
use Rattle.ir_store.specs.Designs.{StoredModule, modules_of}
use Rattle.graphs.specs.Graphs.{lists_of}
use Rattle.design_cycles.specs.Nodes.{bit_sets_by}
use Rattle.design_cycles.proofs.Graphing.{lists_upto}
use Rattle.design_cycles.proofs.wires.graph_of.Given as goal

abbrev pub invariant-loop-position : goal.invariant-loop-position
invariant-loop-position l =
    lists_of l.graph.items ≡ lists_upto l.ports (bit_sets_by (map (λ (m : StoredModule). m.symbol) (modules_of l.scope.design.now)) l.scope.summaries.now) (ops_by_position (ops_of l.scope.body.now)) l.position
