use Rattle.std.proofs.Common.{◌≡◌, ◌++◌}
use Rattle.ir_store.specs.Designs.{design_of}
use Rattle.verilog_expr.specs.Scopes.{scope_ops}
use Rattle.export_verilog.specs.Exported.{states}
use Rattle.export_verilog.specs.ScopeModules.{scope_module}
use Rattle.export_verilog.proofs.text.ItemLists.{each_left}
use Rattle.export_verilog.proofs.module_items.push_all_statements.Given as goal

abbrev pub invariant-loop-position : goal.invariant-loop-position
invariant-loop-position l =
    let f = states l.writer.options (design_of l.writer.design.now.design.now) (scope_module l.writer.scope) in
    l.out ++ each_left f (scope_ops l.writer.scope) l.position ≡ l.initial.out ++ each_left f (scope_ops l.writer.scope) 0
