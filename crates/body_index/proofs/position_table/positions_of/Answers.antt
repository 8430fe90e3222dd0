use Rattle.std.proofs.Common.{◌≡◌, Some, slice_get, arith, sym, ap, ◌∙◌}
use Rattle.std.proofs.lemmas.List.{length-map}
use Rattle.ir_store.specs.declared.operation.OpId.{OpId}
use Rattle.ir_store.specs.Bodies.{op_id}
use Rattle.body_index.proofs.PositionTables.{indices, index_at, table_more, table_all}
use Rattle.body_index.proofs.position_table.positions_of.Goals as goal

pub index_mut-requires : goal.index_mut-requires
index_mut-requires c =
    let at : slice_get (indices c.args.ids.now) c.loop-position.position ≡ Some c.number.result =
    index_at c.args.ids.now c.loop-position.position (op_id 0) c.loop-position-test.true ∙ ap Some (sym c.number.ensures) in
    omega (arith, c.loop-position.invariant.room c.loop-position.position c.number.result at, c.loop-position.positions.ok.0)

pub loop-position-preserved : goal.loop-position-preserved
loop-position-preserved c =
    table_more (indices c.args.ids.now) c.loop-position.position c.number.result c.loop-position.positions.items c.requires
    (index_at c.args.ids.now c.loop-position.position (op_id 0) c.loop-position-test.true ∙ ap Some (sym c.number.ensures)) c.loop-position.invariant

pub returns : goal.returns
returns c =
    table_all (indices c.args.ids.now) c.loop-position.position c.loop-position.positions.items
    (omega (arith, length-map c.args.ids.now (λ (i : OpId). i.index), c.loop-position-test.false)) c.loop-position.invariant
