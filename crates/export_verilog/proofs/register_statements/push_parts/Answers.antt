use Rattle.std.proofs.Common.{Option, None, Some, sym, ap, ◌∙◌}
use Rattle.std.specs.Prelude.{option_map}
use Rattle.ir_store.specs.declared.operation.Value.{Value}
use Rattle.verilog_expr.specs.Scopes.{scope_ref}
use Rattle.export_verilog.specs.Lowerings.{own_place}
use Rattle.export_verilog.specs.Values.{used_text}
use Rattle.hw_model.specs.RegisterViews.{register_of}
use Rattle.export_verilog.proofs.text.RegisterItems.{register_added}
use Rattle.export_verilog.proofs.register_statements.push_parts.Goals.{in-None+in_ok-push_reset-in-None, in-Some+in_ok-enable-in-Some+in_ok-push_reset-in-Some+in-Heap-1, in-Some+in_ok-enable-in-Some+in_ok-push_reset-in-Some+in-Inline-1}
use Rattle.export_verilog.proofs.register_statements.push_parts.Goals as goal

pub returns : goal.returns
returns c =
    let s = c.args.writer.now.scope in
    let v = c.args.writer.now.names.values in
    let next = ap (λ x. used_text s v x (scope_ref s c.args.register.now.next)) c.load_place.ensures in
    let enabled = λ (z : Option Value). option_map (used_text s v (own_place c.args.writer.now.options)) (option_map (scope_ref s) z) in
    elim c.match-register.branch [
      | in-None+in_ok-push_reset-in-None w ↦
          (w.out-is ∙ register_added c.args.writer.now.options s v c.args.target.now c.name_text-clock.result.now w.as_bytes.result.now None (register_of (scope_ref s) c.args.register.now) c.args.out.now w.push_reset.new.out
          c.name_text-clock.ensures (w.as_bytes.ensures ∙ c.in_ok-next.ensures ∙ next) (sym (ap enabled w.in-None.is)) w.in_ok-push_reset-in-None.ensures)
      | in-Some+in_ok-enable-in-Some+in_ok-push_reset-in-Some+in-Heap-1 w ↦
          (w.out-is ∙ register_added c.args.writer.now.options s v c.args.target.now c.name_text-clock.result.now w.as_bytes-in-Some.result.now (Some w.as_bytes-in-Some-2.result.now)
          (register_of (scope_ref s) c.args.register.now) c.args.out.now
          w.push_reset-in-Some.new.out c.name_text-clock.ensures (w.as_bytes-in-Some.ensures ∙ c.in_ok-next.ensures ∙ next)
          (ap (λ x. Some x) (w.as_bytes-in-Some-2.ensures ∙ w.in_ok-enable-in-Some.ensures ∙ ap (λ x. used_text s v x (scope_ref s w.in-Some.value)) w.own_place.ensures) ∙ sym (ap enabled w.in-Some.is)) w.in_ok-push_reset-in-Some.ensures)
      | in-Some+in_ok-enable-in-Some+in_ok-push_reset-in-Some+in-Inline-1 w ↦
          (w.out-is ∙ register_added c.args.writer.now.options s v c.args.target.now c.name_text-clock.result.now w.as_bytes-in-Some.result.now (Some w.as_bytes-in-Some-2.result.now)
          (register_of (scope_ref s) c.args.register.now) c.args.out.now
          w.push_reset-in-Some.new.out c.name_text-clock.ensures (w.as_bytes-in-Some.ensures ∙ c.in_ok-next.ensures ∙ next)
          (ap (λ x. Some x) (w.as_bytes-in-Some-2.ensures ∙ w.in_ok-enable-in-Some.ensures ∙ ap (λ x. used_text s v x (scope_ref s w.in-Some.value)) w.own_place.ensures) ∙ sym (ap enabled w.in-Some.is)) w.in_ok-push_reset-in-Some.ensures)
    ]
