use Rattle.lowering_rules.specs.Reading.{new_refs}
use Rattle.aggregate_lower.specs.Targets.{moved_ref}
use Rattle.aggregate_lower.proofs.MovedOps.{moved_more}
use Rattle.aggregate_lower.proofs.places.moved_ops.Goals as goal

pub loop-op-preserved : goal.loop-op-preserved
loop-op-preserved c =
    moved_more (moved_ref c.args.flags.now (new_refs c.args.targets.now)) c.loop-op.moved.items c.push.new.self.items c.in-Some.op c.in_ok-moved_op.field-0
    c.loop-op.op-iterator.rest.items c.next.new.self.rest.items _ c.in_ok-push.ensures.items c.in_ok-moved_op.ensures c.in-Some.ensures.steps.0 c.loop-op.invariant
