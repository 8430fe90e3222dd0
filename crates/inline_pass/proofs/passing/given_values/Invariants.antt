use Rattle.std.specs.Prelude.{All, Contains}
use Rattle.ir_store.specs.declared.operation.OpId.{OpId}
use Rattle.ir_store.specs.Bodies.{ids_of, ops_of, ids_left}
use Rattle.inline_pass.proofs.GivenValues.{IsSearching}
use Rattle.inline_pass.proofs.passing.given_values.Given as goal

abbrev pub invariant-loop-id : goal.invariant-loop-id
invariant-loop-id l = record {
  live : All (λ (i : OpId). Contains (ids_of l.body) i.index) (ids_left l.id-iterator);
  searching : IsSearching (ops_of l.body) (ids_left l.id-iterator);
}
