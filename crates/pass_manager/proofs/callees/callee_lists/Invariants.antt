use Rattle.std.proofs.Common.{◌≡◌, ◌++◌, length, map}
use Rattle.graphs.specs.Graphs.{lists_of}
use Rattle.design_cycles.specs.Calls.{call_lists}
use Rattle.ir_store.specs.Designs.{design_of}
use Rattle.pass_manager.proofs.callees.callee_lists.Given as goal

abbrev pub invariant-loop-list : goal.invariant-loop-list
invariant-loop-list l = record {
  passed : map (λ row. row.items) l.lists.items ++ lists_of l.list-iterator.rest.items ≡ call_lists (design_of l.design);
  left : l.list-iterator.rest.len ≡ length l.list-iterator.rest.items;
}
