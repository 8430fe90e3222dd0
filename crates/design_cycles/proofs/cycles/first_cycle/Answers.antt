use Rattle.std.proofs.Common.{length, map, arith, subst, sym}
use Rattle.ir_store.specs.Designs.{StoredModule, modules_of, design_of}
use Rattle.design_cycles.specs.Asked.{IsCyclicAt}
use Rattle.graphs.specs.Graphs.{lists_of}
use Rattle.design_cycles.specs.Nodes.{bit_sets_by}
use Rattle.design_cycles.specs.Positions.{FindsOp, ids_at, symbol_at}
use Rattle.design_cycles.specs.Summing.{KnowsCallees}
use Rattle.design_cycles.proofs.Cyclic.{cyclic_module}
use Rattle.graphs.proofs.Marking.{length-lists}
use Rattle.design_cycles.proofs.Returning.{no_module_more, position_found_first}
use Rattle.design_cycles.proofs.Sizing.{whole_order}
use Rattle.design_cycles.proofs.cycles.first_cycle.Goals as goal

pub summaries_of-requires-clause-whole : goal.summaries_of-requires-clause-whole
summaries_of-requires-clause-whole c =
    whole_order (modules_of c.args.design.now) 0 c.requires.distinct c.requires.finite (lists_of c.args.hierarchy.now.calls.items) (length c.args.hierarchy.now.calls.items)
    c.requires.hierarchy.calls c.args.hierarchy.now.order.placed.items c.args.hierarchy.now.order.nodes.items c.as_slice-order.result.now c.requires.hierarchy.order
    (length-lists c.args.hierarchy.now.calls.items) c.requires.hierarchy.longest c.as_slice-order.ensures.value

pub first_in_module-requires-clause-inner : goal.first_in_module-requires-clause-inner
first_in_module-requires-clause-inner c =
    subst
    (λ ss. KnowsCallees (design_of c.args.design.now) (bit_sets_by (map (λ (m : StoredModule). m.symbol) (modules_of c.args.design.now)) ss) (symbol_at (modules_of c.args.design.now) c.loop-module.module))
    (sym c.as_slice-in-loop-module.ensures.value) (c.in_ok-summaries.ensures (symbol_at (modules_of c.args.design.now) c.loop-module.module))

pub returns-in-Some : goal.returns-in-Some
returns-in-Some c = record {
  found = position_found_first (modules_of c.args.design.now) (IsCyclicAt (design_of c.args.design.now)) c.loop-module.module c.in-Some.op c.loop-module.invariant
      (subst (FindsOp (IsCyclicAt (design_of c.args.design.now) c.loop-module.module) (ids_at (modules_of c.args.design.now) c.loop-module.module)) c.in-Some.is c.in_ok-op.ensures);
}

pub loop-module-preserved : goal.loop-module-preserved
loop-module-preserved c =
    no_module_more (IsCyclicAt (design_of c.args.design.now)) c.loop-module.module c.loop-module.invariant
    (subst (FindsOp (IsCyclicAt (design_of c.args.design.now) c.loop-module.module) (ids_at (modules_of c.args.design.now) c.loop-module.module)) c.in_default.is c.in_ok-op.ensures)

pub returns : goal.returns
returns c = record {
  found = λ i j cyclic. c.loop-module.invariant i
      (omega (arith, cyclic_module (modules_of c.args.design.now) i j cyclic, c.module_count-module-end.ensures, c.loop-module-test.false)) j cyclic;
}
