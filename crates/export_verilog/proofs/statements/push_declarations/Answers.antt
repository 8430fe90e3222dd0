use Rattle.std.proofs.Common.{◌≡◌, length, [], ◌++◌, ◌∙◌, ap, arith}
use Rattle.std.proofs.lemmas.List.{length-map}
use Rattle.ir_store.specs.OperationViews.{result_of}
use Rattle.ir_store.specs.ShortLists.{short_items}
use Rattle.ir_store.specs.Numbered.{position_of}
use Rattle.verilog_expr.specs.Scopes.{scope_ids, op_read}
use Rattle.export_verilog.specs.Layout.{items_text}
use Rattle.export_verilog.specs.EmissionViews.{emission_seen}
use Rattle.export_verilog.specs.Values.{declared_items}
use Rattle.export_verilog.proofs.text.SameDeclarations.{declared_same}
use Rattle.export_verilog.proofs.statements.push_declarations.Goals as goal

pub returns : goal.returns
returns c =
    let s = c.args.writer.now.scope in
    let v = c.args.writer.now.names.values in
    let i = position_of (scope_ids s) c.args.id.index in
    let o = op_read s c.args.op.now in
    let r = emission_seen c.args.emission in
    let rs = short_items c.args.op.now.results.now in
    let count : c.in-Ok.count ≡ length o.results = omega (arith, c.in-Ok.ensures.1, c.len.ensures, length-map rs result_of) in
    c.in_ok-push_declared.ensures
    ∙ ap (λ n. c.args.out.now ++ items_text (declared_items s v i n r) []) count
    ∙ ap (λ is. c.args.out.now ++ items_text is []) (declared_same s v i o c.requires c.args.writer.now.names_are.values_are r)
