use Rattle.std.proofs.Common.{rules, [], ◌++◌, sym, ap, ◌∙◌}
use Rattle.std.specs.Prelude.{option_map}
use Rattle.hw_model.specs.Flat.{async_reset_in}
use Rattle.verilog_expr.specs.Named.{named_of}
use Rattle.verilog_expr.specs.Scopes.{scope_ref, op_read}
use Rattle.export_verilog.specs.Lowerings.{load_place, own_place}
use Rattle.export_verilog.specs.Layout.{item_text, items_text}
use Rattle.export_verilog.specs.Values.{value_expr, value_literal}
use Rattle.hw_model.specs.RegisterViews.{register_of}
use Rattle.export_verilog.specs.Statements.{register_item, register_items}
use Rattle.export_verilog.proofs.register_statements.push_register.Goals as goal

pub returns-in_default : goal.returns-in_default
unfolding items_text
returns-in_default c = let seen = c.register_in.ensures c.args.writer.now.scope in search rules

pub returns-in_ok-push_item : goal.returns-in_ok-push_item
unfolding items_text
returns-in_ok-push_item c =
    let s = c.args.writer.now.scope in
    let v = c.args.writer.now.names.values in
    c.in_ok-push_item.ensures
    ∙ ap (λ a. c.args.out.now ++ item_text (register_item (named_of v) (value_expr s v (own_place c.args.writer.now.options)) (value_expr s v (load_place c.args.writer.now.options))
    (value_literal s) c.args.target.now a (register_of (scope_ref s) c.in-Some.register)) []) (c.async_reset_in.ensures s)
    ∙ ap (λ r. c.args.out.now ++ items_text (register_items (named_of v) (value_expr s v (own_place c.args.writer.now.options)) (value_expr s v (load_place c.args.writer.now.options))
    (value_literal s) c.args.target.now (async_reset_in (op_read s c.args.op.now)) r) [])
    (sym (ap (option_map (register_of (scope_ref s))) c.in-Some.is) ∙ c.register_in.ensures s)
