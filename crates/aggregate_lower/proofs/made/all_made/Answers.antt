use Rattle.std.proofs.Common.{◌≤◌, length, get_or, ap, ◌∙◌, arith}
use Rattle.std.proofs.lemmas.List.{length-map}
use Rattle.ir_store.specs.BodyOps.{BodyOp}
use Rattle.ir_store.specs.Bodies.{ids_of, ops_of, op_id, read_op}
use Rattle.ir_store.specs.Designs.{design_of}
use Rattle.aggregate_lower.proofs.BlocksMade.{read_there, number_at}
use Rattle.aggregate_lower.proofs.MadeParts.{none_so_far, one_so_far, all_so_far}
use Rattle.aggregate_lower.proofs.made.all_made.Goals as goal

pub loop-position-init : goal.loop-position-init
loop-position-init c =
    none_so_far (design_of c.args.callees.now.design.now) c.args.table.now (ops_of c.args.body.now) c.args.table.now.starts.items _ c.new-kept.ensures.items c.in_ok-flags.ensures.items c.in_ok-targets.ensures.items

pub loop-position-preserved : goal.loop-position-preserved
loop-position-preserved c =
    let p = c.loop-position.position in
    let size = ap length c.as_slice-id-items.ensures.value in
    one_so_far (design_of c.args.callees.now.design.now) c.args.table.now (ops_of c.args.body.now) c.args.table.now.starts.items p
    (read_op (get_or c.as_slice-id-items.result.now p (op_id 0)) c.op-op.result) c.index.result.now c.loop-position.made c.add.new.self
    (read_there c.args.body.now c.as_slice-id-items.result.now (c.as_slice-id-items.ensures.value ∙ c.requires.ids) p c.loop-position-test.true c.op-op.result c.op-op.ensures)
    (number_at c.args.table.now.starts.items p c.index.result.now (omega (arith, size)) c.index.ensures)
    c.in_ok-add.ensures c.loop-position.invariant

pub returns : goal.returns
returns c =
    let size = ap length (c.as_slice-id-items.ensures.value ∙ c.requires.ids) in
    let ids = length-map (ids_of c.args.body.now) op_id in
    let ops = length-map (ops_of c.args.body.now) (λ (x : BodyOp). x.id) in
    let past : length (ops_of c.args.body.now) ≤ c.loop-position.position = omega (arith, size, ids, ops, c.loop-position-test.false) in
    all_so_far (design_of c.args.callees.now.design.now) c.args.table.now (ops_of c.args.body.now) c.args.table.now.starts.items c.loop-position.position c.loop-position.made past c.loop-position.invariant
