use Rattle.std.proofs.Common.{◌≡◌, ◌<◌, true, MatchBool, length, map, arith, ap, subst, sym, ◌∙◌}
use Rattle.wiring.specs.Wiring.{Depends}
use Rattle.ir_store.specs.Bodies.{ids_of, ops_of}
use Rattle.ir_store.specs.Numbered.{ops_by_position}
use Rattle.ir_store.specs.Designs.{StoredModule, modules_of, design_of, module_of}
use Rattle.design_cycles.specs.Asked.{IsCyclicAt}
use Rattle.graphs.specs.Graphs.{lists_of, edges, has_mark}
use Rattle.design_cycles.specs.Graphs.{ReturnsWithin}
use Rattle.design_cycles.specs.Nodes.{bit_sets_by}
use Rattle.design_cycles.specs.Positions.{ids_at}
use Rattle.design_cycles.proofs.Cyclic.{position_cyclic, position_acyclic, cyclic_within}
use Rattle.design_cycles.proofs.Graphing.{graph_small}
use Rattle.graphs.proofs.Marking.{length-lists}
use Rattle.graphs.proofs.Placing.{placed_no_cycle}
use Rattle.design_cycles.proofs.Pushing.{ids_count, spans_below}
use Rattle.design_cycles.proofs.Returning.{none_more, first_found, id_at_position}
use Rattle.design_cycles.proofs.cycles.first_by_wires.Goals as goal

pub callees_first-requires : goal.callees_first-requires
callees_first-requires c =
    let bit_sets = bit_sets_by (map (λ (m : StoredModule). m.symbol) (modules_of c.args.design.now)) c.args.summaries.now in
    omega (
      arith,
      length-lists c.as_slice.result.now,
      graph_small (length c.module.result.now.ports.ports.items) bit_sets (ops_by_position (ops_of c.module.result.now.body)) (lists_of c.as_slice.result.now)
          (ap lists_of c.as_slice.ensures.value ∙ c.in_ok-wired.ensures.graph) (ids_of c.module.result.now.body) c.in_ok-wired.wired.layout c.in_ok-wired.ensures.layout c.in_ok-wired.ensures.small,
    )

pub index-span-requires : goal.index-span-requires
index-span-requires c =
    let bit_sets = bit_sets_by (map (λ (m : StoredModule). m.symbol) (modules_of c.args.design.now)) c.args.summaries.now in
    omega (
      arith,
      c.in_ok-wired.wired.layout.spans.ok.0,
      spans_below c.module.result.now.body bit_sets (length c.module.result.now.ports.ports.items) c.in_ok-wired.wired.layout c.in_ok-wired.ensures.layout c.in_ok-wired.wired.ids.items
          c.in_ok-wired.ensures.ids c.loop-position.position (omega (arith, c.loop-position-test.true, c.len-position-end.ensures, c.in_ok-wired.wired.ids.ok.0)),
    )

pub has_cycle-requires-clause-placed : goal.has_cycle-requires-clause-placed
has_cycle-requires-clause-placed c =
    λ v mark around. placed_no_cycle (lists_of c.as_slice.result.now) c.in_ok-order.order.placed.items c.in_ok-order.order.nodes.items c.in_ok-order.ensures.order v
    (subst (λ ms. has_mark ms v ≡ true) c.as_slice-in-loop-position-2.ensures.value mark)
    (subst (λ g. Depends (edges (lists_of g)) v v) (c.as_slice-in-loop-position.ensures.value ∙ sym c.as_slice.ensures.value) around)

pub returns-then-branch : goal.returns-then-branch
returns-then-branch c =
    let bit_sets = bit_sets_by (map (λ (m : StoredModule). m.symbol) (modules_of c.args.design.now)) c.args.summaries.now in
    let below : c.loop-position.position < length c.in_ok-wired.wired.ids.items = omega (arith, c.loop-position-test.true, c.len-position-end.ensures, c.in_ok-wired.wired.ids.ok.0) in
    let graph = lists_of c.as_slice-in-loop-position.result.now in
    let span = c.index-span.result.now in
    first_found (IsCyclicAt (design_of c.args.design.now) c.args.number) (ids_at (modules_of c.args.design.now) c.args.number) c.loop-position.position c.index.result.now c.loop-position.invariant
    (position_cyclic (modules_of c.args.design.now) c.requires.distinct c.args.number c.module.result.now c.module.ensures c.args.summaries.now c.requires.inner c.in_ok-wired.wired.layout
    c.in_ok-wired.ensures.layout c.in_ok-wired.wired.graph.items c.as_slice-in-loop-position.result.now c.in_ok-wired.ensures.graph c.as_slice-in-loop-position.ensures.value
    c.loop-position.position span
    (spans_below c.module.result.now.body bit_sets (length c.module.result.now.ports.ports.items) c.in_ok-wired.wired.layout c.in_ok-wired.ensures.layout c.in_ok-wired.wired.ids.items
    c.in_ok-wired.ensures.ids c.loop-position.position below)
    c.index-span.ensures
    (subst (λ b. MatchBool b (ReturnsWithin graph span.start span.size) (ReturnsWithin graph span.start span.size → ⊥)) c.if-branch.true c.in_ok-has_cycle.ensures))
    (id_at_position (modules_of c.args.design.now) c.args.number (module_of c.module.result.now) c.in_ok-wired.wired.ids.items c.loop-position.position c.index.result.now c.index.result.now
    c.module.ensures c.in_ok-wired.ensures.ids below c.index.ensures)

pub loop-position-preserved : goal.loop-position-preserved
loop-position-preserved c =
    let bit_sets = bit_sets_by (map (λ (m : StoredModule). m.symbol) (modules_of c.args.design.now)) c.args.summaries.now in
    let below : c.loop-position.position < length c.in_ok-wired.wired.ids.items = omega (arith, c.loop-position-test.true, c.len-position-end.ensures, c.in_ok-wired.wired.ids.ok.0) in
    let graph = lists_of c.as_slice-in-loop-position.result.now in
    let span = c.index-span.result.now in
    none_more (IsCyclicAt (design_of c.args.design.now) c.args.number) c.loop-position.position c.loop-position.invariant
    (position_acyclic (modules_of c.args.design.now) c.requires.distinct c.args.number c.module.result.now c.module.ensures c.args.summaries.now c.requires.inner c.in_ok-wired.wired.layout
    c.in_ok-wired.ensures.layout c.in_ok-wired.wired.graph.items c.as_slice-in-loop-position.result.now c.in_ok-wired.ensures.graph c.as_slice-in-loop-position.ensures.value
    c.loop-position.position span
    (spans_below c.module.result.now.body bit_sets (length c.module.result.now.ports.ports.items) c.in_ok-wired.wired.layout c.in_ok-wired.ensures.layout c.in_ok-wired.wired.ids.items
    c.in_ok-wired.ensures.ids c.loop-position.position below)
    c.index-span.ensures
    (subst (λ b. MatchBool b (ReturnsWithin graph span.start span.size) (ReturnsWithin graph span.start span.size → ⊥)) c.if-branch.false c.in_ok-has_cycle.ensures))

pub returns : goal.returns
returns c =
    λ j cyclic. c.loop-position.invariant j
    (omega (
      arith,
      c.loop-position-test.false,
      c.len-position-end.ensures,
      c.in_ok-wired.wired.ids.ok.0,
      ids_count c.module.result.now.body c.in_ok-wired.wired.ids.items c.in_ok-wired.ensures.ids,
      cyclic_within (modules_of c.args.design.now) c.args.number (module_of c.module.result.now) c.requires.distinct c.module.ensures j cyclic,
    )) cyclic
