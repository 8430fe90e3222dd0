use Rattle.std.proofs.Common.{◌≡◌, List, map, ap, ◌∙◌}
use Rattle.ir_store.specs.Bodies.{ids_of, ops_of, ids_left, op_id, read_op}
use Rattle.ir_store.specs.BodyOps.{BodyOp}
use Rattle.ir_store.specs.Numbered.{position_of, op_by, ops_by_position}
use Rattle.ir_store.proofs.BodyLemmas.{ids_once}
use Rattle.ir_store.proofs.Walks.{all_among, first_among, rest_among, ops_at, through_all, walk}
use Rattle.aggregate_laws.specs.Scalars.{has_aggregate_result}
use Rattle.aggregate_lower.proofs.DesignValues.{op_with, op_without}
use Rattle.aggregate_lower.proofs.aggregates.has_aggregate_result.Goals as goal

pub loop-id-init : goal.loop-id-init
loop-id-init c =
    let b = c.args.body.now in
    let left : ids_left c.into_iter-id-iterator.result ≡ map op_id (ids_of b) = ap ids_left c.into_iter-id-iterator.ensures.into_iter_gives ∙ c.ops-id-items.ensures in
    record {
      live = all_among (ids_of b) (ids_left c.into_iter-id-iterator.result) left;
      left = ap (λ (ops : List BodyOp). has_aggregate_result (map (op_by (position_of (ids_of b))) ops)) (ap (ops_at (ops_of b)) left ∙ through_all (ops_of b) (ids_once b));
    }

pub op-requires : goal.op-requires
op-requires c = first_among (ids_of c.args.body.now) c.in-Some.id (ids_left c.loop-id.id-iterator) (ids_left c.next.new.self) c.in-Some.ensures.steps c.loop-id.invariant.live

pub returns-then-has_aggregate_type : goal.returns-then-has_aggregate_type
returns-then-has_aggregate_type c =
    let b = c.args.body.now in
    let o = read_op c.in-Some.id c.op.result in
    op_with (op_by (position_of (ids_of b))) o (ops_at (ops_of b) (ids_left c.loop-id.id-iterator)) (ops_at (ops_of b) (ids_left c.next.new.self)) c.has_aggregate_type.result (has_aggregate_result (ops_by_position (ops_of b)))
    (walk (ops_of b) c.in-Some.id (ids_left c.loop-id.id-iterator) (ids_left c.next.new.self) o c.op.ensures c.in-Some.ensures.steps) c.has_aggregate_type.ensures c.if-has_aggregate_type.true c.loop-id.invariant.left

pub loop-id-preserved : goal.loop-id-preserved
loop-id-preserved c =
    let b = c.args.body.now in
    let o = read_op c.in-Some.id c.op.result in
    record {
      live = rest_among (ids_of b) c.in-Some.id (ids_left c.loop-id.id-iterator) (ids_left c.next.new.self) c.in-Some.ensures.steps c.loop-id.invariant.live;
      left = op_without (op_by (position_of (ids_of b))) o (ops_at (ops_of b) (ids_left c.loop-id.id-iterator)) (ops_at (ops_of b) (ids_left c.next.new.self)) c.has_aggregate_type.result (has_aggregate_result (ops_by_position (ops_of b)))
          (walk (ops_of b) c.in-Some.id (ids_left c.loop-id.id-iterator) (ids_left c.next.new.self) o c.op.ensures c.in-Some.ensures.steps) c.has_aggregate_type.ensures c.if-has_aggregate_type.false c.loop-id.invariant.left;
    }
