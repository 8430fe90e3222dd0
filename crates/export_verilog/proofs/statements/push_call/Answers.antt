use Rattle.std.proofs.Common.{◌≡◌, ℕ, [], ◌++◌, map, Some, subst, sym, ◌∙◌, ap}
use Rattle.std.proofs.lemmas.Option.{get_or_from_slice_get}
use Rattle.hw_model.specs.Types.{Name}
use Rattle.hw_model.specs.KindViews.{kind_of, instance_of as instance_seen}
use Rattle.hw_model.specs.Design.{find_module, instance_in}
use Rattle.hw_model.specs.Design.Ref.{result}
use Rattle.ir_store.specs.Designs.{design_of, port_of}
use Rattle.ir_store.specs.Numbered.{position_of}
use Rattle.verilog_expr.specs.Scopes.{scope_ids, op_read}
use Rattle.verilog_expr.specs.Named.{named_of}
use Rattle.export_verilog.specs.Lowerings.{own_place}
use Rattle.export_verilog.specs.Held.{ArePortNames}
use Rattle.export_verilog.specs.Identifiers.{name_or_nothing, identifier_text}
use Rattle.export_verilog.specs.Identifiers.Identifier.{value_identifier, instance_identifier}
use Rattle.export_verilog.specs.Exported.{connections_to, instance_of}
use Rattle.export_verilog.specs.Joined.{connections_from}
use Rattle.export_verilog.specs.Layout.{items_text}
use Rattle.export_verilog.specs.ScopeModules.{scope_module}
use Rattle.export_verilog.specs.Values.{value_expr}
use Rattle.export_verilog.proofs.text.SameConnections.{joined_same, instance_same}
use Rattle.export_verilog.proofs.text.SameStatements.{used_same}
use Rattle.export_verilog.proofs.statements.push_call.Goals as goal

pub returns-in_ok-push_instance : goal.returns-in_ok-push_instance
unfolding items_text
returns-in_ok-push_instance c =
    let s = c.args.writer.now.scope in
    let v = c.args.writer.now.names.values in
    let m = scope_module s in
    let d = design_of c.args.writer.now.design.now.design.now in
    let i = c.args.position in
    let j = position_of (scope_ids s) c.args.id.index in
    let o = op_read s c.args.op.now in
    let x = instance_seen c.deref.result.now in
    let q = c.as_bytes.result.now in
    let called = c.callee_of-called.result in
    let port_names = c.chosen_names-port_names.result.now in
    let own = c.as_bytes-in-Instance.result.now in
    let values = c.args.writer.now.names_are.values_are in
    let given : ℕ → Name = λ k. name_or_nothing (named_of v (result j k)) in
    let kind : instance_in (kind_of c.args.op.now.kind.now) ≡ Some x = ap (λ k. instance_in (kind_of k)) c.in-Instance.is ∙ ap (λ y. Some (instance_seen y)) (sym c.deref.ensures) in
    let own_is : own ≡ identifier_text m (instance_identifier i) =
    c.as_bytes-in-Instance.ensures ∙ c.index.ensures ∙ get_or_from_slice_get c.args.writer.now.names.own.items i (identifier_text m (instance_identifier i)) _ (c.args.writer.now.names_are.own_are i o x c.requires.there kind) in
    let results : (k : ℕ) → given k ≡ identifier_text m (value_identifier i k) = λ k. ap (λ n. name_or_nothing (named_of v (result n k))) c.requires.id ∙ ap name_or_nothing (values (result i k)) in
    let joins : connections_from (value_expr s v (own_place c.args.writer.now.options)) given 0 port_names (map port_of called.ports.now) o.operands ≡ connections_to c.args.writer.now.options (find_module d q) m i o =
    joined_same c.args.writer.now.options m i (value_expr s v (own_place c.args.writer.now.options)) given
    (used_same c.args.writer.now.options s v values (own_place c.args.writer.now.options)) results (find_module d q) o port_names (map port_of called.ports.now) c.callee_of-called.ensures.ports
    c.chosen_names-port_names.ensures.0 (subst (λ ps. ArePortNames ps port_names) c.callee_of-called.ensures.ports c.chosen_names-port_names.ensures.1) in
    c.in_ok-push_instance.ensures
    ∙ ap (λ is. c.args.out.now ++ items_text is [])
    (instance_same c.args.writer.now.options d m i o x q called.symbol.now own (connections_from (value_expr s v (own_place c.args.writer.now.options)) given 0 port_names
    (map port_of called.ports.now) o.operands) c.as_bytes.ensures c.callee_of-called.ensures.symbol own_is joins
    ∙ sym (ap (instance_of c.args.writer.now.options d m i o) kind))
