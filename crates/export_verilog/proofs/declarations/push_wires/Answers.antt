use Rattle.std.proofs.Common.{◌≡◌, ℕ, ◌-◌, [], ◌++◌, ◌∙◌, ap, arith}
use Rattle.ir_store.specs.Numbered.{position_of}
use Rattle.verilog_expr.specs.Scopes.{scope_ids}
use Rattle.export_verilog.specs.Layout.{items_text}
use Rattle.export_verilog.specs.Values.{value_wires}
use Rattle.export_verilog.proofs.text.ValueWires.{wires_left, wires_step, wires_end}
use Rattle.export_verilog.proofs.declarations.push_wires.Goals as goal

pub loop-number-preserved : goal.loop-number-preserved
loop-number-preserved c =
    let s = c.args.writer.now.scope in
    let v = c.args.writer.now.names.values in
    let i = position_of (scope_ids s) c.args.id.index in
    wires_step s v i c.loop-number.number c.args.count c.loop-number.out c.push_value_wire.new.out (c.args.out.now ++ wires_left s v i 0 c.args.count)
    (omega (arith, c.loop-number-test.true)) c.loop-number.invariant c.in_ok-push_value_wire.ensures

all : (n : ℕ) → n - 0 ≡ n
all n = omega arith

pub returns : goal.returns
returns c =
    let s = c.args.writer.now.scope in
    let v = c.args.writer.now.names.values in
    let i = position_of (scope_ids s) c.args.id.index in
    wires_end s v i c.loop-number.number c.args.count c.loop-number.out (c.args.out.now ++ wires_left s v i 0 c.args.count)
    (omega (arith, c.loop-number-test.false)) c.loop-number.invariant
    ∙ ap (λ n. c.args.out.now ++ items_text (value_wires s v i 0 n) []) (all c.args.count)
