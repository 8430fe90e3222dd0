use Rattle.std.proofs.Common.{◌↔◌}
use Rattle.std.specs.Prelude.{All, Contains}
use Rattle.ir_store.specs.declared.operation.OpId.{OpId}
use Rattle.ir_store.specs.Bodies.{ids_of, ops_of, ids_left}
use Rattle.ir_store.proofs.Walks.{ops_at}
use Rattle.stored_form.proofs.Bodies.{AreCanonical}
use Rattle.stored_form.proofs.operations.are_canonical_ops.Given as goal

abbrev pub invariant-loop-id : goal.invariant-loop-id
invariant-loop-id l = record {
  live : All (λ (i : OpId). Contains (ids_of l.body) i.index) (ids_left l.id-iterator);
  left : AreCanonical (ops_of l.body) ↔ AreCanonical (ops_at (ops_of l.body) (ids_left l.id-iterator));
}
