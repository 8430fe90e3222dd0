use Rattle.std.proofs.Common.{[], ◌++◌, ◌∙◌, ap}
use Rattle.verilog_model.specs.Tree.Item.{assign}
use Rattle.verilog_expr.specs.Expressions.{own_expr}
use Rattle.verilog_expr.specs.Scopes.{scope_ports, scope_ops, scope_ref}
use Rattle.verilog_expr.specs.Named.{named_of}
use Rattle.export_verilog.specs.Lowerings.{load_place}
use Rattle.export_verilog.specs.Identifiers.{name_or_nothing}
use Rattle.export_verilog.specs.Layout.{item_text}
use Rattle.export_verilog.specs.Written.{verbatim}
use Rattle.export_verilog.specs.Values.{value_expr}
use Rattle.export_verilog.proofs.text.WrittenItems.{assign_same}
use Rattle.export_verilog.proofs.assigns.push_net.Goals as goal

pub returns : goal.returns
returns c =
    let s = c.args.writer.now.scope in
    let v = c.args.writer.now.names.values in
    let r = scope_ref s c.args.value in
    let n = name_or_nothing (named_of v r) in
    c.in_ok-push_assign.ensures ∙ ap (λ x. c.args.out.now ++ item_text (assign x (verbatim c.as_bytes.result.now)) []) c.name_text-name.ensures
    ∙ ap (λ x. c.args.out.now ++ item_text (assign n (verbatim x)) []) (c.as_bytes.ensures ∙ c.in_ok-text.ensures)
    ∙ ap (λ x. c.args.out.now ++ x) (assign_same n (own_expr (named_of v) (scope_ports s) (scope_ops s) (value_expr s v) (load_place c.args.writer.now.options) r) [])
