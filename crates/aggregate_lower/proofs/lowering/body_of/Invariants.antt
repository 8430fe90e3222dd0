use Rattle.std.proofs.Common.{◌≡◌, ◌++◌, length}
use Rattle.ir_store.specs.Bodies.{ids_of, ops_of, gaps}
use Rattle.aggregate_lower.specs.MadeBodies.{numbered_from}
use Rattle.aggregate_lower.proofs.lowering.body_of.Given as goal

abbrev pub invariant-loop-op : goal.invariant-loop-op
invariant-loop-op l = record {
  made : ops_of l.body ++ numbered_from (length (ids_of l.body)) l.op-iterator.rest.items ≡ numbered_from 0 l.fn.made.items;
  none_gone : gaps l.body ≡ 0;
  left : l.op-iterator.rest.len ≡ length l.op-iterator.rest.items;
}
