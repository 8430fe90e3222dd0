use Rattle.std.proofs.Common.{◌≡◌, ◌∙◌, ap}
use Rattle.std.proofs.lemmas.Result.{IfOk-weaker}
use Rattle.verilog_expr.specs.Scopes.{scope_ref}
use Rattle.export_verilog.specs.Lowerings.{load_place}
use Rattle.export_verilog.specs.Values.{defined_text}
use Rattle.export_verilog.proofs.values.defined_text.Goals as goal

pub returns : goal.returns
returns c =
    let s = c.args.writer.now.scope in
    let v = c.args.writer.now.names.values in
    IfOk-weaker c.bytes_of.result (λ text. text ≡ c.in_ok-expr.expr.text) (λ text. text ≡ defined_text s v (load_place c.args.writer.now.options) (scope_ref s c.args.value))
    (λ text is. is ∙ c.in_ok-expr.ensures ∙ ap (λ x. defined_text s v x (scope_ref s c.args.value)) c.load_place.ensures)
    c.bytes_of.ensures
