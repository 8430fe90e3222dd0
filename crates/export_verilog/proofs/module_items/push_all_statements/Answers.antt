use Rattle.std.proofs.Common.{◌≡◌, ◌<◌, ◌++◌, length, ap, ◌∙◌, arith}
use Rattle.hw_model.specs.KindViews.{kind_of}
use Rattle.ir_store.specs.Designs.{design_of}
use Rattle.verilog_expr.specs.Scopes.{scope_ports, scope_ops, op_read}
use Rattle.export_verilog.specs.Identifiers.{emission_of}
use Rattle.export_verilog.specs.EmissionViews.{emission_seen}
use Rattle.export_verilog.specs.Held.{emission_by}
use Rattle.export_verilog.specs.Exported.{states, stated_as}
use Rattle.export_verilog.specs.ScopeModules.{scope_module}
use Rattle.export_verilog.proofs.text.ItemLists.{each_left, each_step, each_end}
use Rattle.export_verilog.proofs.module_items.push_all_statements.Goals as goal

pub push_statements-requires : goal.push_statements-requires
push_statements-requires c = record { there = c.op_at-op.ensures; id = c.id_at.ensures }

pub loop-position-preserved : goal.loop-position-preserved
loop-position-preserved c =
    let s = c.args.writer.now.scope in
    let d = design_of c.args.writer.now.design.now.design.now in
    let m = scope_module s in
    let O = scope_ops s in
    let i = c.loop-position.position in
    let o = c.op_at-op.result in
    let x = op_read s o in
    let r = emission_seen c.emission_of-emission.result in
    let lt : i < length O = omega (arith, c.loop-position-test.true, c.count-position-end.ensures) in
    let emission : r ≡ emission_of (scope_ports s) O i x = c.emission_of-emission.ensures ∙ ap (λ b. emission_by b (kind_of o.kind.now)) (c.has_wire.ensures ∙ c.args.writer.now.wires_are i lt) in
    each_step (states c.args.writer.now.options d m) O i x (stated_as c.args.writer.now.options d m i x r) c.loop-position.out c.push_statements.new.out
    (c.args.out.now ++ each_left (states c.args.writer.now.options d m) O 0) c.op_at-op.ensures
    (ap (stated_as c.args.writer.now.options d m i x) emission) c.in_ok-push_statements.ensures c.loop-position.invariant

pub returns : goal.returns
returns c =
    let s = c.args.writer.now.scope in
    let f = states c.args.writer.now.options (design_of c.args.writer.now.design.now.design.now) (scope_module s) in
    each_end f (scope_ops s) c.loop-position.position c.loop-position.out (c.args.out.now ++ each_left f (scope_ops s) 0) (omega (arith, c.loop-position-test.false, c.count-position-end.ensures)) c.loop-position.invariant
