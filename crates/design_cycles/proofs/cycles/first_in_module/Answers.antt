use Rattle.ir_store.specs.Designs.{modules_of}
use Rattle.design_cycles.proofs.Ordered.{ordered_acyclic, if_true}
use Rattle.design_cycles.proofs.cycles.first_in_module.Goals as goal

pub returns-then-are_in_order : goal.returns-then-are_in_order
returns-then-are_in_order c =
    ordered_acyclic (modules_of c.args.design.now) c.requires.distinct c.args.number c.«module».result.now c.«module».ensures c.args.summaries.now c.requires.inner
    (if_true _ _ c.are_in_order.result c.if-are_in_order.true c.are_in_order.ensures)
