use Rattle.std.proofs.Common.{◌≡◌, ℕ, ◌<◌, length, get_or, false}
use Rattle.hw_model.specs.Design.Ref.{result as result_of}
use Rattle.verilog_expr.specs.Spilling.{spilled}
use Rattle.verilog_expr.specs.Scopes.{scope_ports, scope_ops}
use Rattle.verilog_expr.proofs.wires.wires_of.Given as goal

abbrev pub invariant-loop-position : goal.invariant-loop-position
invariant-loop-position l = record {
  count : length l.wires.items ≡ l.position;
  wires : (i : ℕ) → i < l.position → get_or l.wires.items i false ≡ spilled (scope_ports l.scope) (scope_ops l.scope) (result_of i 0);
}
