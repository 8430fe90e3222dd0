use Rattle.std.proofs.Common.{◌≡◌, suc, ◌++◌, length, slice_get, Some, ap, sym, ◌∙◌, arith}
use Rattle.std.proofs.lemmas.List.{length-map}
use Rattle.std.proofs.lemmas.Option.{get_or_from_slice_get}
use Rattle.ir_store.specs.declared.design.Port.{Port}
use Rattle.ir_store.specs.Designs.{port_of}
use Rattle.verilog_expr.specs.Scopes.{scope_ports, scope_ops, scope_ref}
use Rattle.verilog_expr.specs.Named.{named_of}
use Rattle.verilog_expr.specs.Spilling.{height_limit}
use Rattle.export_verilog.specs.Lowerings.{load_place}
use Rattle.export_verilog.specs.Identifiers.{value_name, identifier_text}
use Rattle.export_verilog.specs.Identifiers.Identifier.{port_identifier}
use Rattle.export_verilog.specs.Values.{value_expr}
use Rattle.export_verilog.specs.ScopeModules.{scope_module}
use Rattle.export_verilog.proofs.text.Listed.{viewed}
use Rattle.export_verilog.proofs.names.SameNames.{expr_same}
use Rattle.export_verilog.proofs.text.OutputItems.{outputs_left, outputs_assigned, outputs_passed, outputs_end}
use Rattle.export_verilog.proofs.module_items.push_outputs.Goals.{then-ports-position+in_ok-push_output, else-ports-position}
use Rattle.export_verilog.proofs.module_items.push_outputs.Goals as goal

pub loop-position-preserved : goal.loop-position-preserved
loop-position-preserved c =
    let s = c.args.writer.now.scope in
    let m = scope_module s in
    let i = c.loop-position.position in
    let p = port_of c.index-ports-position.result in
    let whole = c.args.out.now ++ outputs_left c.args.writer.now.options m (scope_ref s) c.args.operands.now 0 0 in
    let at : slice_get m.ports i ≡ Some p =
    sym (ap (λ ps. slice_get ps i) c.ports-ports.ensures) ∙ viewed port_of c.ports-ports.result.now i c.index-ports-position.result (omega (arith, c.loop-position-test.true)) c.index-ports-position.is in
    elim c.if-ports-position.branch [
      | then-ports-position+in_ok-push_output w ↦
          record {
            bytes = rw (w.out-is, w.number-is) (outputs_assigned c.args.writer.now.options m (scope_ref s) c.args.operands.now i c.loop-position.number p c.loop-position.out whole at c.loop-position.invariant.bytes
                w.as_bytes-name.result.now (value_expr s c.args.writer.now.names.values (load_place c.args.writer.now.options)) w.push_output.new.out (ap (λ (q : Port). q.out) c.index-ports-position.is ∙ w.if-ports-position.true)
                (w.as_bytes-name.ensures ∙ w.index.ensures ∙ get_or_from_slice_get c.args.writer.now.names.ports.items i (identifier_text m (port_identifier i)) w.index.result.now (c.args.writer.now.names_are.ports_are i p at))
                (expr_same (named_of c.args.writer.now.names.values) (value_name m) (scope_ports s) (scope_ops s) c.args.writer.now.names_are.values_are (suc height_limit)
                (load_place c.args.writer.now.options)) w.in_ok-push_output.ensures);
            number = omega (arith, w.number-is, c.loop-position.invariant.number);
          }
      | else-ports-position w ↦
          record {
            bytes = rw (w.out-is, w.number-is) (outputs_passed c.args.writer.now.options m (scope_ref s) c.args.operands.now i c.loop-position.number p c.loop-position.out whole at c.loop-position.invariant.bytes
                (ap (λ (q : Port). q.out) c.index-ports-position.is ∙ w.if-ports-position.false));
            number = omega (arith, w.number-is, c.loop-position.invariant.number);
          }
    ]

pub returns : goal.returns
returns c =
    let s = c.args.writer.now.scope in
    outputs_end c.args.writer.now.options (scope_module s) (scope_ref s) c.args.operands.now c.loop-position.position c.loop-position.number c.loop-position.out
    (c.args.out.now ++ outputs_left c.args.writer.now.options (scope_module s) (scope_ref s) c.args.operands.now 0 0)
    (omega (arith, c.loop-position-test.false, ap length c.ports-ports.ensures, length-map c.ports-ports.result.now port_of)) c.loop-position.invariant.bytes
