use Rattle.std.proofs.Common.{map, arith, subst, sym}
use Rattle.ir_store.specs.Bodies.{ids_of, ops_of}
use Rattle.ir_store.specs.Numbered.{ops_by_position}
use Rattle.ir_store.specs.Designs.{StoredModule, modules_of}
use Rattle.graphs.specs.Graphs.{lists_of}
use Rattle.design_cycles.specs.Nodes.{bit_sets_by, sizes_in, IsLayout}
use Rattle.design_cycles.proofs.Graphing.{graph_begins, graph_more, graph_ends}
use Rattle.design_cycles.proofs.Pushing.{ids_count}
use Rattle.design_cycles.proofs.wires.graph_of.Goals as goal

pub loop-position-init : goal.loop-position-init
loop-position-init c =
    graph_begins c.args.ports (bit_sets_by (map (λ (m : StoredModule). m.symbol) (modules_of c.args.scope.now.design.now)) c.args.scope.now.summaries.now) (ops_by_position (ops_of c.args.scope.now.body.now))
    (lists_of c.in_ok-graph.graph.items) c.in_ok-graph.ensures

pub push_op-requires-clause-layout : goal.push_op-requires-clause-layout
push_op-requires-clause-layout c =
    subst (λ n. IsLayout n (sizes_in (bit_sets_by (map (λ (m : StoredModule). m.symbol) (modules_of c.args.scope.now.design.now)) c.args.scope.now.summaries.now)
    (ops_by_position (ops_of c.args.scope.now.body.now))) (ids_of c.args.scope.now.body.now) c.args.layout.now)
    (sym c.requires.count) c.requires

pub loop-position-preserved : goal.loop-position-preserved
loop-position-preserved c =
    graph_more c.args.ports (bit_sets_by (map (λ (m : StoredModule). m.symbol) (modules_of c.args.scope.now.design.now)) c.args.scope.now.summaries.now) (ops_by_position (ops_of c.args.scope.now.body.now))
    c.loop-position.position (lists_of c.loop-position.graph.items) (lists_of c.push_op.new.graph.items)
    (omega (arith, c.loop-position-test.true, ids_count c.args.scope.now.body.now c.args.scope.now.ids.now c.args.scope.now.all)) c.loop-position.invariant (rw c.requires.count at c.in_ok-push_op.ensures)

pub returns : goal.returns
returns c =
    graph_ends c.args.ports (bit_sets_by (map (λ (m : StoredModule). m.symbol) (modules_of c.args.scope.now.design.now)) c.args.scope.now.summaries.now) (ops_by_position (ops_of c.args.scope.now.body.now))
    c.loop-position.position (lists_of c.loop-position.graph.items) (omega (arith, c.loop-position-test.false, ids_count c.args.scope.now.body.now c.args.scope.now.ids.now c.args.scope.now.all)) c.loop-position.invariant
