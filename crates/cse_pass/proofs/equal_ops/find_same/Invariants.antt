use Rattle.std.proofs.Common.{◌≡◌, drop}
use Rattle.std.specs.Prelude.{find}
use Rattle.ir_store.specs.declared.operation.OpId.{OpId}
use Rattle.ir_store.specs.Bodies.{ops_of}
use Rattle.cse_pass.specs.Same.{are_same_at}
use Rattle.cse_pass.proofs.equal_ops.find_same.Given as goal

abbrev pub invariant-loop-id : goal.invariant-loop-id
invariant-loop-id l = find (λ (id : OpId). are_same_at (ops_of l.body) id l.fn.op) (drop l.id-index l.ids) ≡ find (λ (id : OpId). are_same_at (ops_of l.body) id l.fn.op) l.ids
