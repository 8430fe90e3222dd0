use Rattle.std.proofs.Common.{ap, ◌∙◌, ◌++◌}
use Rattle.std.specs.Prelude.{[]}
use Rattle.hw_model.specs.Design.{output_refs}
use Rattle.ir_store.specs.Designs.{design_of}
use Rattle.verilog_expr.specs.Scopes.{scope_ports}
use Rattle.export_verilog.specs.Identifiers.{each}
use Rattle.export_verilog.specs.Exported.{declares, states, output_assigns}
use Rattle.export_verilog.specs.Layout.{items_text}
use Rattle.export_verilog.specs.ScopeModules.{scope_module}
use Rattle.export_verilog.proofs.text.ItemLists.{items_joined}
use Rattle.export_verilog.proofs.module_items.push_items.Goals as goal

pub returns : goal.returns
returns c =
    let s = c.args.writer.now.scope in
    let m = scope_module s in
    items_joined c.args.out.now c.push_all_declarations.new.out c.push_all_statements.new.out c.push_outputs.new.out
    (each (declares m) 0 m.body) (each (states c.args.writer.now.options (design_of c.args.writer.now.design.now.design.now) m) 0 m.body) (output_assigns c.args.writer.now.options m 0 m.ports (output_refs m.body))
    c.in_ok-push_all_declarations.ensures c.in_ok-push_all_statements.ensures
    (c.in_ok-push_outputs.ensures ∙ ap (λ rs. c.push_all_statements.new.out ++ items_text (output_assigns c.args.writer.now.options m 0 (scope_ports s) rs) []) c.output_operands.ensures)
