use Rattle.std.proofs.Common.{◌≡◌, drop}
use Rattle.ir_store.specs.Bodies.{ops_of, ids_of}
use Rattle.inline_pass.specs.MovedOps.{operands_moved}
use Rattle.inline_pass.specs.Destinations.{value_there}
use Rattle.inline_pass.proofs.body_changes.move_operands.Given as goal

abbrev pub invariant-loop-op : goal.invariant-loop-op
invariant-loop-op l = record {
  left : operands_moved (value_there l.destinations) (drop l.op-index l.ops) (ops_of l.body) ≡ operands_moved (value_there l.destinations) l.ops (ops_of l.fn.body);
  ids : ids_of l.body ≡ ids_of l.fn.body;
}
