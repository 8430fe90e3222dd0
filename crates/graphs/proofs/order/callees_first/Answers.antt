use Rattle.std.proofs.Common.{length, arith, subst, sym}
use Rattle.wiring.specs.Wiring.{In}
use Rattle.graphs.proofs.Placing.{placing_begins, placing_ends, waiting_ends}
use Rattle.graphs.proofs.order.callees_first.Goals as goal

pub place_all-requires : goal.place_all-requires
place_all-requires c =
    placing_begins c.args.graph.now c.in_ok-placed.placed.items c.deref_mut.result.now c.deref_mut.result.now c.in_ok-placed.placed.len c.in_ok-placed.placed.ok.0 (cc) c.deref_mut.ensures.value
    (length c.args.graph.now) c.new-nodes.result.items (omega (arith, c.in_ok-placed.ensures.len, c.in_ok-placed.placed.ok.0)) (c.in_ok-placed.ensures.items_if_clones_equal (λ y e. e)) c.new-nodes.ensures.items

pub returns-clause-order : goal.returns-clause-order
returns-clause-order c =
    placing_ends c.args.graph.now c.in_ok-placed.placed.items c.deref_mut.result.now c.place_all.new.placed c.in_ok-placed.placed.len c.in_ok-placed.placed.ok.0 c.place_all.auto.placed c.deref_mut.ensures.value
    c.place_all.new.nodes.items c.in_ok-place_all.ensures.order

pub returns-clause-longest : goal.returns-clause-longest
returns-clause-longest c =
    waiting_ends c.args.graph.now c.in_ok-placed.placed.items c.deref_mut.result.now c.place_all.new.placed c.in_ok-placed.placed.len c.in_ok-placed.placed.ok.0 c.place_all.auto.placed c.deref_mut.ensures.value
    c.place_all.new.nodes.items c.as_slice-2.result.now (λ v below. subst (In v) (sym c.as_slice-2.ensures.value) (c.in_ok-all.ensures v below)) c.in_ok-place_all.ensures.done
