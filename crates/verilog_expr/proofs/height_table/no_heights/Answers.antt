use Rattle.std.proofs.Common.{◌≡◌, length, None, refl, ap, arith}
use Rattle.verilog_expr.proofs.PartsMarked.{table_grown, length_grown}
use Rattle.verilog_expr.proofs.height_table.no_heights.Goals as goal

pub loop-position-init : goal.loop-position-init
loop-position-init c = record {
  count = ap length c.in_ok-heights.ensures.items;
  none = λ i lt. absurd (omega (arith, lt));
}

pub loop-position-preserved : goal.loop-position-preserved
loop-position-preserved c = record {
  count = length_grown c.loop-position.heights.items c.push.new.self.items c.loop-position.position None c.loop-position.invariant.count c.in_ok-push.ensures.items;
  none = table_grown (λ i h. h ≡ None) c.loop-position.heights.items c.push.new.self.items c.loop-position.position None None
      c.loop-position.invariant.count c.in_ok-push.ensures.items c.loop-position.invariant.none refl;
}

pub returns : goal.returns
returns c = record {
  count = omega (arith, c.loop-position.invariant.count, c.loop-position-test.false, c.loop-position.auto.position-end);
  none = λ i lt. c.loop-position.invariant.none i (omega (arith, lt, c.loop-position-test.false));
}
