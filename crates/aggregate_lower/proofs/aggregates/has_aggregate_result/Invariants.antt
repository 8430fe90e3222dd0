use Rattle.std.proofs.Common.{◌≡◌, map}
use Rattle.std.specs.Prelude.{All, Contains}
use Rattle.ir_store.specs.declared.operation.OpId.{OpId}
use Rattle.ir_store.specs.Bodies.{ids_of, ops_of, ids_left}
use Rattle.ir_store.specs.Numbered.{position_of, op_by, ops_by_position}
use Rattle.ir_store.proofs.Walks.{ops_at}
use Rattle.aggregate_laws.specs.Scalars.{has_aggregate_result}
use Rattle.aggregate_lower.proofs.aggregates.has_aggregate_result.Given as goal

abbrev pub invariant-loop-id : goal.invariant-loop-id
invariant-loop-id l = record {
  live : All (λ (i : OpId). Contains (ids_of l.body) i.index) (ids_left l.id-iterator);
  left : has_aggregate_result (map (op_by (position_of (ids_of l.body))) (ops_at (ops_of l.body) (ids_left l.id-iterator))) ≡ has_aggregate_result (ops_by_position (ops_of l.body));
}
