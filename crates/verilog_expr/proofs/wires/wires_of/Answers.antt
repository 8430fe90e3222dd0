use Rattle.std.proofs.Common.{◌≡◌, ◌<◌, false, length, unwrap_or, ap, ◌∙◌, arith}
use Rattle.hw_model.specs.Design.Ref.{result as result_of}
use Rattle.verilog_expr.specs.Spilling.{height, spilled}
use Rattle.verilog_expr.specs.Scopes.{scope_ports, scope_ops, op_read}
use Rattle.verilog_expr.proofs.PartsMarked.{table_grown, length_grown}
use Rattle.verilog_expr.proofs.HeightSteps.{wired_is}
use Rattle.verilog_expr.proofs.wires.wires_of.Goals as goal

pub loop-position-init : goal.loop-position-init
loop-position-init c = record {
  count = ap length c.in_ok-wires.ensures.items;
  wires = λ i lt. absurd (omega (arith, lt));
}

pub loop-position-preserved : goal.loop-position-preserved
loop-position-preserved c =
    let ports = scope_ports c.args.scope.now in
    let os = scope_ops c.args.scope.now in
    let within : c.loop-position.position < length os = omega (arith, c.loop-position-test.true, c.count-count.ensures) in
    let high : c.unwrap_or-height.result ≡ height ports os (result_of c.loop-position.position 0) = c.unwrap_or-height.ensures ∙ ap (λ h. unwrap_or h 0) (c.requires.heights c.loop-position.position within) in
    record {
      count = length_grown c.loop-position.wires.items c.push.new.self.items c.loop-position.position c.is_wired.result c.loop-position.invariant.count c.in_ok-push.ensures.items;
      wires = table_grown (λ i b. b ≡ spilled ports os (result_of i 0)) c.loop-position.wires.items c.push.new.self.items c.loop-position.position c.is_wired.result false
          c.loop-position.invariant.count c.in_ok-push.ensures.items c.loop-position.invariant.wires
          (c.is_wired.ensures c.args.scope.now ∙ wired_is ports os c.loop-position.position (op_read c.args.scope.now c.op_at-op.result) _ _ _ c.op_at-op.ensures
          (c.requires.marks c.loop-position.position within) (c.requires.parts c.loop-position.position within) high);
    }

pub returns : goal.returns
returns c = λ i lt. c.loop-position.invariant.wires i (omega (arith, lt, c.loop-position-test.false, c.count-count.ensures))
