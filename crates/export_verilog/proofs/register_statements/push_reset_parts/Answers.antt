use Rattle.std.proofs.Common.{ap, ◌∙◌}
use Rattle.hw_model.specs.RegisterViews.{reset_by_of, register_of}
use Rattle.verilog_expr.specs.Scopes.{scope_ref}
use Rattle.export_verilog.specs.Values.{used_text}
use Rattle.export_verilog.proofs.text.RegisterItems.{async_added}
use Rattle.export_verilog.proofs.register_statements.push_reset_parts.Goals as goal

pub returns : goal.returns
returns c =
    let s = c.args.writer.now.scope in
    let next = ap (λ x. used_text s c.args.writer.now.names.values x (scope_ref s c.args.register.now.next)) c.load_place.ensures in
    async_added c.args.writer.now.options s c.args.writer.now.names.values c.args.target.now c.name_text-clock.result.now c.as_bytes.result.now
    (record { signal = c.name_text-signal.result.now; value = c.as_bytes-2.result.now })
    (register_of (scope_ref s) c.args.register.now) (reset_by_of (scope_ref s) c.args.by) c.args.out.now c.push_async.new.out
    c.name_text-clock.ensures (c.as_bytes.ensures ∙ c.in_ok-next.ensures ∙ next) c.name_text-signal.ensures (c.as_bytes-2.ensures ∙ c.in_ok-value.ensures)
    c.in_ok-push_async.ensures
