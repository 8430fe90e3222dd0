use Rattle.std.proofs.Common.{map, arith}
use Rattle.port_checks.specs.Marked.{has_reset}
use Rattle.op_verifier.specs.BodyViews.{ports_viewed, ref_viewed}
use Rattle.op_verifier.proofs.ResetJoins.{counted_more, found_at, none_at, none_joined}
use Rattle.op_verifier.proofs.body_view.BodyView.joins_other_among.Goals as goal

pub returns-then-joins_other_at : goal.returns-then-joins_other_at
returns-then-joins_other_at c =
    let v = c.args.self.now in
    found_at (has_reset c.args.resets.now c.args.owner) (ports_viewed v) c.args.ports.now (map (ref_viewed v) c.args.operands.now) c.loop-number.number c.loop-number.inputs
    c.index-ports-number.result c.has-is_reset.result c.joins_other_at.result (omega (arith, c.loop-number-test.true)) c.index-ports-number.is c.loop-number.invariant.counted
    c.has-is_reset.ensures c.joins_other_at.ensures c.loop-number.invariant.none c.if-joins_other_at.true

pub loop-number-preserved : goal.loop-number-preserved
loop-number-preserved c =
    let v = c.args.self.now in
    record {
      few = omega (arith, c.loop-number.invariant.few, c.input_count-inputs.ensures.few);
      counted = counted_more c.args.ports.now c.loop-number.number c.loop-number.inputs c.input_count-inputs.result c.index-ports-number.result (omega (arith, c.loop-number-test.true))
          c.index-ports-number.is c.input_count-inputs.ensures.count c.loop-number.invariant.counted;
      none = none_at (has_reset c.args.resets.now c.args.owner) (ports_viewed v) c.args.ports.now (map (ref_viewed v) c.args.operands.now) c.loop-number.number c.loop-number.inputs
          c.index-ports-number.result c.has-is_reset.result c.joins_other_at.result (omega (arith, c.loop-number-test.true)) c.index-ports-number.is c.loop-number.invariant.counted
          c.has-is_reset.ensures c.joins_other_at.ensures c.loop-number.invariant.none c.if-joins_other_at.false;
    }

pub returns : goal.returns
returns c =
    let v = c.args.self.now in
    none_joined (has_reset c.args.resets.now c.args.owner) (ports_viewed v) c.args.ports.now (map (ref_viewed v) c.args.operands.now) c.loop-number.number
    (omega (arith, c.loop-number-test.false)) c.loop-number.invariant.none
