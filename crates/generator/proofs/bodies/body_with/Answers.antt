use Rattle.std.proofs.Common.{map}
use Rattle.ir_store.specs.Bodies.{ops_of}
use Rattle.ir_store.specs.BodyOps.{as_new}
use Rattle.generator.specs.Views.{op_seen}
use Rattle.generator.proofs.NumberedBodies.{numbered_more, ops_more, room_left}
use Rattle.generator.proofs.bodies.body_with.Goals as goal

pub add_op-requires-clause-room : goal.add_op-requires-clause-room
add_op-requires-clause-room c =
    room_left (ops_of c.loop-op.body) c.loop-op.op-iterator.rest.items c.args.ops.items c.loop-op.invariant.ops c.requires

pub loop-op-preserved : goal.loop-op-preserved
loop-op-preserved c =
    let added = c.in_ok-add_op.ensures in
    record {
      ops = ops_more (ops_of c.loop-op.body) (ops_of c.add_op.new.self) c.in_ok-add_op.field-0 c.in-Some.op c.loop-op.op-iterator.rest.items c.next.new.self.rest.items
          (map op_seen c.args.ops.items) added.ok c.in-Some.ensures.steps.0 c.loop-op.invariant.ops;
      numbered = record {
        ids = numbered_more (ops_of c.loop-op.body) (ops_of c.add_op.new.self) (as_new c.in_ok-add_op.field-0 c.in-Some.op) added.ok c.loop-op.invariant.numbered.ids
            (added.next c.loop-op.invariant.numbered.gaps);
        gaps = added.gaps c.loop-op.invariant.numbered.gaps;
      };
    }
