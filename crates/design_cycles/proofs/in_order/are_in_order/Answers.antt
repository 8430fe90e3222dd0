use Rattle.std.proofs.Common.{length, arith, ap}
use Rattle.std.proofs.lemmas.List.{length-map}
use Rattle.ir_store.specs.BodyOps.{BodyOp}
use Rattle.ir_store.specs.Bodies.{ids_of, ops_of, op_id}
use Rattle.ir_store.specs.Numbered.{ops_by_position, op_by, position_of}
use Rattle.design_cycles.proofs.Ordered.{if_true, one_after, all_after}
use Rattle.design_cycles.proofs.in_order.are_in_order.Goals as goal

pub loop-position-preserved : goal.loop-position-preserved
loop-position-preserved c =
    one_after (ops_by_position (ops_of c.args.body.now)) c.loop-position.position c.loop-position.invariant (if_true _ _ c.stands_after.result c.if-not-stands_after.false c.stands_after.ensures)

pub returns : goal.returns
returns c =
    all_after (ops_by_position (ops_of c.args.body.now)) c.loop-position.position
    (omega (
      arith,
      c.loop-position-test.false,
      ap length c.requires,
      length-map (ids_of c.args.body.now) op_id,
      length-map (ops_of c.args.body.now) (λ (o : BodyOp). o.id),
      length-map (ops_of c.args.body.now) (op_by (position_of (ids_of c.args.body.now))),
    )) c.loop-position.invariant
