use Rattle.std.proofs.Common.{◌≡◌, ◌++◌, map, take}
use Rattle.ir_store.specs.Bodies.{ids_of}
use Rattle.ir_store.specs.Numbered.{position_of, ref_by}
use Rattle.flat_module_gates.specs.Orders.{makers_of}
use Rattle.flat_module_gates.proofs.order.push_makers.Given as goal

abbrev pub invariant-loop-value : goal.invariant-loop-value
invariant-loop-value l = l.nodes.items ≡ l.fn.nodes.items ++ makers_of (map (ref_by (position_of (ids_of l.ops.body.now))) (take l.value-index l.values))
