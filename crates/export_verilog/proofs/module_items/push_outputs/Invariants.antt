use Rattle.std.proofs.Common.{◌≡◌, ◌≤◌, ◌++◌}
use Rattle.verilog_expr.specs.Scopes.{scope_ref}
use Rattle.export_verilog.specs.ScopeModules.{scope_module}
use Rattle.export_verilog.proofs.text.OutputItems.{outputs_left}
use Rattle.export_verilog.proofs.module_items.push_outputs.Given as goal

abbrev pub invariant-loop-position : goal.invariant-loop-position
invariant-loop-position l =
    let m = scope_module l.writer.scope in
    record {
      bytes : l.out ++ outputs_left l.writer.options m (scope_ref l.writer.scope) l.operands l.position l.number ≡ l.initial.out ++ outputs_left l.writer.options m (scope_ref l.writer.scope) l.operands 0 0;
      number : l.number ≤ l.position;
    }
