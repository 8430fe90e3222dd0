-- The constant of a number that is put before an operation, in the place of two of its operands.
use Rattle.std.proofs.Common.{◌≡◌, ℕ, Some, slice_get, subst}
use Rattle.hw_model.specs.Types.{HwType}
use Rattle.hw_model.specs.Design.{Op, result_type}
use Rattle.ir_store.specs.declared.body.Body.{Body}
use Rattle.ir_store.specs.declared.operation.NewOp.{NewOp}
use Rattle.ir_store.specs.OperationViews.{new_parts}
use Rattle.fold_laws.specs.Numbers.{number_op}
use Rattle.comb_fold.specs.declared.joined.Two.{Two}
use Rattle.comb_fold.specs.Joins.{IsPutIn, HasJoined}
use Rattle.body_edits.specs.Replaced.{plain_op, IsNumberOp}
use Rattle.body_edits.specs.Views.{body_ops}

pub has_joined : (b b' : Body) (i first second : ℕ) (two : Two) (n : ℕ) (o : Op) (t : HwType) (new : NewOp) → slice_get (body_ops b) i ≡ Some o → result_type o 0 ≡ Some t
    → IsNumberOp n t o.location new → first ≡ two.first → second ≡ two.second → IsPutIn b b' i first second (plain_op (new_parts new)) → HasJoined b b' i two n
has_joined b b' i first second two n o t new there typed made at then put = record {
  op = o;
  there = there;
  type = t;
  typed = typed;
  put = subst (λ j. IsPutIn b b' i j two.second (number_op n t o.location)) at
      (subst (λ j. IsPutIn b b' i first j (number_op n t o.location)) then (subst (IsPutIn b b' i first second) made.is put));
}
