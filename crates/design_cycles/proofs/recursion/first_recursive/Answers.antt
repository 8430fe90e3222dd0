use Rattle.std.proofs.Common.{arith, subst, sym}
use Rattle.ir_store.specs.Designs.{modules_of, design_of}
use Rattle.design_cycles.specs.Asked.{IsRecursiveAt}
use Rattle.graphs.specs.Graphs.{lists_of}
use Rattle.graphs.specs.Orders.{IsOrder}
use Rattle.design_cycles.specs.Positions.{FindsOp, ids_at}
use Rattle.design_cycles.proofs.Returning.{no_module_more, position_found_first, placed_none, recursive_module, none_recursive}
use Rattle.design_cycles.proofs.recursion.first_recursive.Goals as goal
use Rattle.design_cycles.proofs.recursion.first_recursive.Goals.{then-is_open+in_ok-op+in_default, else-is_open}

pub returns-in-Some-clause-found : goal.returns-in-Some-clause-found
returns-in-Some-clause-found c =
    position_found_first (modules_of c.args.design.now) (IsRecursiveAt (design_of c.args.design.now)) c.loop-module.module c.in-Some.op c.loop-module.invariant
    (subst (FindsOp (IsRecursiveAt (design_of c.args.design.now) c.loop-module.module) (ids_at (modules_of c.args.design.now) c.loop-module.module)) c.in-Some.is c.in_ok-op.ensures)

pub loop-module-preserved : goal.loop-module-preserved
loop-module-preserved c =
    elim c.if-is_open.branch [
      | then-is_open+in_ok-op+in_default w ↦
          no_module_more (IsRecursiveAt (design_of c.args.design.now)) c.loop-module.module c.loop-module.invariant
          (subst (FindsOp (IsRecursiveAt (design_of c.args.design.now) c.loop-module.module) (ids_at (modules_of c.args.design.now) c.loop-module.module)) w.in_default.is w.in_ok-op.ensures)
      | else-is_open w ↦
          no_module_more (IsRecursiveAt (design_of c.args.design.now)) c.loop-module.module c.loop-module.invariant
          (placed_none (modules_of c.args.design.now) c.requires.distinct (lists_of c.args.hierarchy.now.calls.items) c.requires.hierarchy.calls c.as_slice.result.now c.args.hierarchy.now.order.nodes.items
          (subst (λ ms. IsOrder (lists_of c.args.hierarchy.now.calls.items) ms c.args.hierarchy.now.order.nodes.items) (sym c.as_slice.ensures.value) c.requires.hierarchy.order)
          c.loop-module.module (omega (arith, c.module_count-module-end.ensures, c.loop-module-test.true)) c.is_open.result c.is_open.ensures w.if-is_open.false)
    ]

pub returns-clause-found : goal.returns-clause-found
returns-clause-found c = λ i j r. c.loop-module.invariant i (omega (arith, recursive_module (modules_of c.args.design.now) i j r, c.module_count-module-end.ensures, c.loop-module-test.false)) j r

pub returns-clause-none : goal.returns-clause-none
returns-clause-none c =
    λ same. none_recursive (design_of c.args.design.now) c.requires.distinct (λ i j r. c.loop-module.invariant i
    (omega (arith, recursive_module (modules_of c.args.design.now) i j r, c.module_count-module-end.ensures, c.loop-module-test.false)) j r)
