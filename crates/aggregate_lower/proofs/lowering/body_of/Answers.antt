use Rattle.std.proofs.Common.{rules, ◌∙◌}
use Rattle.ir_store.specs.Bodies.{ops_of}
use Rattle.aggregate_lower.proofs.NumberedBodies.{numbered_more}
use Rattle.aggregate_lower.proofs.lowering.body_of.Goals as goal

pub loop-op-preserved : goal.loop-op-preserved
loop-op-preserved c = record {
  made = numbered_more (ops_of c.loop-op.body) (ops_of c.add_op.new.self) c.in_ok-add_op.field-0 c.in-Some.op c.loop-op.op-iterator.rest.items c.next.new.self.rest.items
      c.in-Some.ensures.steps.0 c.in_ok-add_op.ensures.ok (c.in_ok-add_op.ensures.next c.loop-op.invariant.none_gone) ∙ c.loop-op.invariant.made;
  none_gone = c.in_ok-add_op.ensures.gaps c.loop-op.invariant.none_gone;
  left = search rules;
}
