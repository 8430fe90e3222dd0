use Rattle.std.proofs.Common.{arith}
use Rattle.std.proofs.lemmas.List.{length-map}
use Rattle.std.proofs.lemmas.Option.{slice_get_within}
use Rattle.ir_store.specs.declared.operation.OpId.{OpId}
use Rattle.ir_store.specs.Bodies.{op_id}
use Rattle.body_index.proofs.PositionTables.{indices, size_more}
use Rattle.body_index.proofs.position_table.size_for.Goals as goal

pub loop-id-preserved : goal.loop-id-preserved
loop-id-preserved c =
    size_more c.args.ids.now c.loop-id.id-index c.loop-id.size c.max-size.result (op_id 0) c.loop-id-test.true c.loop-id.invariant (omega (arith, c.max-size.ensures))
    (omega (arith, c.number.ensures, c.number.type_inv, c.saturating_add.ensures, c.max-size.ensures))

pub returns : goal.returns
returns c =
    λ j q at. c.loop-id.invariant j q
    (omega (arith, slice_get_within (indices c.args.ids.now) j q at, length-map c.args.ids.now (λ (i : OpId). i.index), c.loop-id-test.false)) at
