use Rattle.std.proofs.Common.{map, length, arith, ap}
use Rattle.std.proofs.lemmas.List.{length-map}
use Rattle.ir_store.specs.Bodies.{ids_of, ops_of, op_id}
use Rattle.ir_store.specs.Numbered.{ops_by_position, op_by, position_of}
use Rattle.ir_store.specs.BodyOps.{BodyOp}
use Rattle.ir_store.specs.Designs.{StoredModule, modules_of}
use Rattle.design_cycles.specs.Weighing.{weight_by}
use Rattle.design_cycles.proofs.Sizing.{body_more, body_all}
use Rattle.design_cycles.proofs.size.body_weight.Goals as goal

pub loop-position-preserved : goal.loop-position-preserved
loop-position-preserved c =
    body_more (weight_by (map (λ (m : StoredModule). m.symbol) (modules_of c.args.design.now)) c.args.weights.now) (ops_by_position (ops_of c.args.body.now)) c.loop-position.position 18446744073709551615
    c.loop-position.sum c.weight_at.result c.saturating_add-sum.result c.loop-position.invariant c.weight_at.ensures c.saturating_add-sum.ensures

pub returns : goal.returns
returns c =
    body_all (weight_by (map (λ (m : StoredModule). m.symbol) (modules_of c.args.design.now)) c.args.weights.now) (ops_by_position (ops_of c.args.body.now)) c.loop-position.position 18446744073709551615
    c.loop-position.sum
    (omega (
      arith,
      c.loop-position-test.false,
      ap length c.as_slice-ids.ensures.value,
      ap length c.in_ok-read_ids.ensures,
      length-map (ids_of c.args.body.now) op_id,
      length-map (ops_of c.args.body.now) (λ (o : BodyOp). o.id),
      length-map (ops_of c.args.body.now) (op_by (position_of (ids_of c.args.body.now))),
    )) c.loop-position.invariant
