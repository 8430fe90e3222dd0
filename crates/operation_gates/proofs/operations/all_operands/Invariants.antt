use Rattle.std.proofs.Common.{◌≡◌, ◌<◌, length, drop}
use Rattle.gates.specs.Circuits.{Runs}
use Rattle.hw_model.specs.FamilyViews.{variadic_of}
use Rattle.operation_gates.specs.OperationGateLists.{variadic_gate_list}
use Rattle.operation_gates.proofs.operations.all_operands.Given as goal

abbrev pub invariant-loop-left : goal.invariant-loop-left
invariant-loop-left l = record {
  within : l.left < length l.operands;
  width : length l.so_far.items ≡ l.width;
  runs : Runs (variadic_gate_list (variadic_of l.op) l.width (drop l.left l.operands)) l.initial.gates l.gates l.so_far.items;
}

abbrev pub decreases-loop-left : goal.decreases-loop-left
decreases-loop-left l = l.left
