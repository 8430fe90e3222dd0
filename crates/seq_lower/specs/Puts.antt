-- Operations that are put before one of a body in code, or in its place, where there is room for them.
use Rattle.std.specs.Prelude.{◌≡◌, ℕ, suc, ◌+◌, ◌<◌, ◌≤◌, ◌^◌, All, List, map, length, insert}
use Rattle.hw_model.specs.Design.{Op}
use Rattle.hw_model.specs.Design.Ref.{result as op_result}
use Rattle.edit_laws.specs.Laws.{up_ref, insert_op}
use Rattle.ir_store.specs.declared.body.Body.{Body}
use Rattle.ir_store.specs.declared.operation.NewOp.{NewOp}
use Rattle.ir_store.specs.declared.operation.OpId.{OpId}
use Rattle.ir_store.specs.declared.operation.Value.{Value}
use Rattle.ir_store.specs.declared.operation.Value.TheVariants.{Result}
use Rattle.ir_store.specs.Bodies.{ids_of, ops_of, spare_ops, spare_uses}
use Rattle.ir_store.specs.Live.{IsLive, AreLive}
use Rattle.ir_store.specs.OperationViews.{new_parts}
use Rattle.body_edits.specs.Replaceable.{IsNoFurther, HaveNoFurther}
use Rattle.body_edits.specs.Replaced.{plain_op}
use Rattle.body_edits.specs.Views.{HasOp, body_ops, position_in, value_ref}

-- the body has the operation, all operands are there, and none is a further result of the operation
pub record IsReady (b : Body) (op : OpId) : Type 0 where
  pub there : HasOp b op
  pub live : AreLive (ops_of b)
  pub alone : HaveNoFurther (position_in b op) (body_ops b)

-- the value is there, and no further result of the operation
pub record MayBeOperand (b : Body) (op : OpId) (v : Value) : Type 0 where
  pub live : IsLive (ids_of b) v
  pub alone : IsNoFurther (position_in b op) (value_ref b v)

-- so is each of some
abbrev pub MayBeOperands : Body → OpId → List Value → Type 0
MayBeOperands b op vs = All (MayBeOperand b op) vs

-- there is room for so many more operations with so many operands
pub record HasRoom (b : Body) (more operands : ℕ) : Type 0 where
  pub few : length (ids_of b) + more < 2 ^ 32
  pub ops : more ≤ spare_ops b
  pub uses : operands ≤ spare_uses b

-- a new operation with other operands, by positions
abbrev pub new_with : Body → NewOp → List Value → Op
new_with b new vs = record (plain_op (new_parts new)) { operands = map (value_ref b) vs }

-- in the body after, the operation `id` with so many operands stands before the operation `op` of the one before
pub record IsPutBefore (before after : Body) (op id : OpId) (o : Op) (n : ℕ) : Type 0 where
  pub ops : body_ops after ≡ insert_op (position_in before op) o (body_ops before)
  pub ids : ids_of after ≡ insert (ids_of before) (position_in before op) id.index
  pub position : position_in after op ≡ suc (position_in before op)
  pub ready : IsReady after op
  pub may : (v : Value) → MayBeOperand before op v → MayBeOperand after op v
  pub values : (v : Value) → MayBeOperand before op v → value_ref after v ≡ up_ref (position_in before op) (value_ref before v)
  pub own_may : MayBeOperand after op (Result id 0)
  pub own : value_ref after (Result id 0) ≡ op_result (position_in before op) 0
  pub room : (more operands : ℕ) → HasRoom before (1 + more) (n + operands) → HasRoom after more operands
