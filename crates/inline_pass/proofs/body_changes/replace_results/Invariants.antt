use Rattle.std.proofs.Common.{◌≡◌, drop}
use Rattle.ir_store.specs.Bodies.{ops_of}
use Rattle.inline_pass.specs.MovedOps.{results_replaced}
use Rattle.inline_pass.proofs.body_changes.replace_results.Given as goal

abbrev pub invariant-loop-wire : goal.invariant-loop-wire
invariant-loop-wire l = record {
  left : results_replaced l.op l.number (drop l.wire-index l.wires) (ops_of l.body) ≡ results_replaced l.op 0 l.wires (ops_of l.fn.body);
  number : l.number ≡ l.wire-index;
}
