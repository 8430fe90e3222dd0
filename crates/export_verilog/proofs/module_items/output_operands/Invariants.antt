use Rattle.std.proofs.Common.{◌≡◌, drop}
use Rattle.hw_model.specs.Design.{output_refs}
use Rattle.verilog_expr.specs.Scopes.{scope_ops}
use Rattle.export_verilog.proofs.module_items.output_operands.Given as goal

abbrev pub invariant-loop-position : goal.invariant-loop-position
invariant-loop-position l = output_refs (drop l.position (scope_ops l.scope)) ≡ output_refs (scope_ops l.scope)
