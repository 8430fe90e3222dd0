-- An operation that a value stands for, by ids and by positions.
use Rattle.std.proofs.Common.{◌≡◌, sym, ap, subst, ◌∙◌}
use Rattle.std.specs.Prelude.{Contains}
use Rattle.edit_laws.specs.Laws.{erase_op}
use Rattle.ir_store.specs.declared.body.Body.{Body}
use Rattle.ir_store.specs.declared.operation.OpId.{OpId}
use Rattle.ir_store.specs.declared.operation.Value.{Value}
use Rattle.ir_store.specs.declared.operation.Value.TheVariants.{Result}
use Rattle.ir_store.specs.Bodies.{ids_of, ops_of}
use Rattle.ir_store.specs.BodyOps.{ids_in, taken_out, all_replaced, IsUnused}
use Rattle.ir_store.specs.Live.{AreLive}
use Rattle.ir_store.specs.Numbered.{ops_by_position}
use Rattle.ir_store.proofs.Living.{ids-all_replaced}
use Rattle.body_edits.specs.Views.{HasOp, body_ops, position_in, value_ref}
use Rattle.body_edits.proofs.Erasing.{numbered_erase}

-- an operation that is there still is once a value stands for its result
pub still_there : (op : OpId) (x : Value) (b b' : Body) → HasOp b op → ops_of b' ≡ all_replaced (Result op 0) x (ops_of b) → Contains (ids_of b') op.index
still_there op x b b' there is = subst (λ ids. Contains ids op.index) (sym (ap ids_in is ∙ ids-all_replaced (Result op 0) x (ops_of b))) there

-- an operation that is taken out, once a value stands for its result, is erased
pub stood_in : (op : OpId) (x : Value) (b b' b'' : Body) → AreLive (ops_of b) → HasOp b op → IsUnused op.index (all_replaced (Result op 0) x (ops_of b))
    → ops_of b' ≡ all_replaced (Result op 0) x (ops_of b) → ops_of b'' ≡ taken_out op.index (ops_of b') → body_ops b'' ≡ erase_op (position_in b op) (value_ref b x) (body_ops b)
unfolding body_ops position_in value_ref
stood_in op x b b' b'' live there unused replaced taken = ap ops_by_position (taken ∙ ap (taken_out op.index) replaced) ∙ numbered_erase op x (ops_of b) live there unused
