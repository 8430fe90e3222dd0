use Rattle.std.proofs.Common.{[], ◌++◌, ◌∙◌, ap, map, drop}
use Rattle.verilog_model.specs.Text.{expr_text}
use Rattle.verilog_model.specs.Tree.Item.{assign}
use Rattle.verilog_expr.specs.Scopes.{scope_ref}
use Rattle.export_verilog.specs.Lowerings.{load_place}
use Rattle.export_verilog.specs.Exported.{expr_or_none}
use Rattle.export_verilog.specs.Layout.{item_text}
use Rattle.export_verilog.specs.Written.{verbatim}
use Rattle.export_verilog.specs.Values.{value_expr}
use Rattle.export_verilog.proofs.text.WrittenItems.{assign_same}
use Rattle.export_verilog.proofs.assigns.push_output.Goals as goal

pub returns : goal.returns
returns c =
    let s = c.args.writer.now.scope in
    let v = c.args.writer.now.names.values in
    c.in_ok-push_assign.ensures
    ∙ ap (λ x. c.args.out.now ++ item_text (assign c.args.name.now (verbatim x)) []) (c.as_bytes.ensures ∙ c.in_ok-text.ensures
    ∙ ap (λ x. expr_text (expr_or_none (value_expr s v x) (map (scope_ref s) (drop c.args.number c.args.operands.now))) []) c.load_place.ensures)
    ∙ ap (λ x. c.args.out.now ++ x) (assign_same c.args.name.now (expr_or_none (value_expr s v (load_place c.args.writer.now.options)) (map (scope_ref s) (drop c.args.number c.args.operands.now))) [])
