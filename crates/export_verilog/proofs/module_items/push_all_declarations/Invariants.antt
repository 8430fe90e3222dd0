use Rattle.std.proofs.Common.{◌≡◌, ◌++◌}
use Rattle.verilog_expr.specs.Scopes.{scope_ops}
use Rattle.export_verilog.specs.Exported.{declares}
use Rattle.export_verilog.specs.ScopeModules.{scope_module}
use Rattle.export_verilog.proofs.text.ItemLists.{each_left}
use Rattle.export_verilog.proofs.module_items.push_all_declarations.Given as goal

abbrev pub invariant-loop-position : goal.invariant-loop-position
invariant-loop-position l =
    let m = scope_module l.writer.scope in
    l.out ++ each_left (declares m) (scope_ops l.writer.scope) l.position ≡ l.initial.out ++ each_left (declares m) (scope_ops l.writer.scope) 0
