use Rattle.std.proofs.Common.{◌≡◌, ◌++◌, map}
use Rattle.ir_store.specs.Bodies.{ops_of}
use Rattle.ir_store.specs.Numbered.{op_by}
use Rattle.generator.specs.Views.{op_seen, IsNumbered}
use Rattle.generator.proofs.bodies.body_with.Given as goal

abbrev pub invariant-loop-op : goal.invariant-loop-op
invariant-loop-op l = record {
  ops : map (op_by (λ i. i)) (ops_of l.body) ++ map op_seen l.op-iterator.rest.items ≡ map op_seen l.fn.ops.items;
  numbered : IsNumbered l.body;
}
