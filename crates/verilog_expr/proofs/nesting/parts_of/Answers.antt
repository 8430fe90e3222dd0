use Rattle.std.proofs.Common.{◌≡◌, length, ap, ◌∙◌, arith}
use Rattle.hw_model.specs.Design.Ref.{result as result_of}
use Rattle.verilog_expr.specs.Spilling as told
use Rattle.verilog_expr.specs.Scopes.{scope_ports, scope_ops, op_read}
use Rattle.verilog_expr.specs.PartTables.{part_seen}
use Rattle.verilog_expr.specs.declared.nesting.Part.TheVariants.{Flat}
use Rattle.verilog_expr.proofs.PartsMarked.{part_is, table_grown, length_grown}
use Rattle.verilog_expr.proofs.nesting.parts_of.Goals as goal

pub loop-position-init : goal.loop-position-init
loop-position-init c = record {
  count = ap length c.in_ok-parts.ensures.items;
  parts = λ i lt. absurd (omega (arith, lt));
}

pub loop-position-preserved : goal.loop-position-preserved
loop-position-preserved c =
    let ports = scope_ports c.args.scope.now in
    let os = scope_ops c.args.scope.now in
    record {
      count = length_grown c.loop-position.parts.items c.push.new.self.items c.loop-position.position c.part_of.result c.loop-position.invariant.count c.in_ok-push.ensures.items;
      parts = table_grown (λ i p. part_seen p ≡ told.part ports os (result_of i 0)) c.loop-position.parts.items c.push.new.self.items c.loop-position.position c.part_of.result Flat
          c.loop-position.invariant.count c.in_ok-push.ensures.items c.loop-position.invariant.parts
          (c.part_of.ensures c.args.scope.now
          ∙ part_is ports os c.loop-position.position (op_read c.args.scope.now c.op_at-op.result) _ c.op_at-op.ensures
          (c.requires.marks c.loop-position.position (omega (arith, c.loop-position-test.true, c.count-count.ensures))));
    }

pub returns : goal.returns
returns c = record {
  count = c.loop-position.invariant.count ∙ omega (arith, c.loop-position-test.false, c.loop-position.auto.position-end, c.count-count.ensures);
  parts = λ i lt. c.loop-position.invariant.parts i (omega (arith, lt, c.loop-position-test.false, c.count-count.ensures));
}
