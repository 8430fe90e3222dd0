-- Registers of a body in code, and bodies in which one is lowered.
use Rattle.std.specs.Prelude.{◌≡◌, suc, true, drop, set, Some, slice_get}
use Rattle.hw_model.specs.Design.{Op}
use Rattle.hw_model.specs.Design.Ref.{result}
use Rattle.hw_model.specs.RegisterViews.{register_of}
use Rattle.hw_model.specs.declared.registers.Register.{Register as CodeRegister}
use Rattle.hw_model.specs.declared.registers.ResetBy.{ResetBy as CodeReset}
use Rattle.edit_laws.specs.Laws.{up_ref, insert_op}
use Rattle.ir_store.specs.declared.body.Body.{Body}
use Rattle.ir_store.specs.declared.operation.OpId.{OpId}
use Rattle.ir_store.specs.declared.operation.Value.{Value}
use Rattle.ir_store.specs.Bodies.{ids_of}
use Rattle.body_edits.specs.Views.{body_ops, position_in, value_ref}
use Rattle.seq_lower.specs.declared.new_ops.Choice.{Choice}
use Rattle.seq_lower.specs.Lowered.{clocked_register, plain_register, mux_for, lowered_at, next_position}
use Rattle.seq_lower.specs.NewOps.{is_clocked_kind}

-- the operation is a register with these operands
pub record HasRegister (b : Body) (op : OpId) (r : CodeRegister Value) : Type 0 where
  pub found : Op
  pub there : slice_get (body_ops b) (position_in b op) ≡ Some found
  pub clocked : clocked_register found ≡ Some (register_of (value_ref b) r)

-- it is a register
pub record IsClocked (b : Body) (op : OpId) : Type 0 where
  pub found : Op
  pub there : slice_get (body_ops b) (position_in b op) ≡ Some found
  pub kind : is_clocked_kind found.kind ≡ true

-- in the body after, the operation of the one before is lowered; the operations after it stay
pub record IsLoweredIn (before after : Body) (op : OpId) : Type 0 where
  pub ops : body_ops after ≡ lowered_at (position_in before op) (body_ops before)
  pub rest : drop (next_position (position_in before op) (body_ops before)) (ids_of after) ≡ drop (suc (position_in before op)) (ids_of before)

-- the register loads what a mux before it gives
pub record IsLoadedByOne (before after : Body) (op : OpId) (c : Choice) (clock : Value) : Type 0 where
  pub ops : (o : Op) → slice_get (body_ops before) (position_in before op) ≡ Some o
      → body_ops after ≡ set (insert_op (position_in before op) (mux_for o (value_ref before c.condition) (value_ref before c.high) (value_ref before c.low)) (body_ops before))
      (suc (position_in before op)) (plain_register o (result (position_in before op) 0) (up_ref (position_in before op) (value_ref before clock)))
  pub rest : drop (suc (suc (position_in before op))) (ids_of after) ≡ drop (suc (position_in before op)) (ids_of before)

-- the register loads what a second mux gives, of a value where it is reset and of what a first one gives
pub record IsLoadedByTwo (before after : Body) (op : OpId) (c : Choice) (r : CodeReset Value) (clock : Value) : Type 0 where
  pub ops : (o : Op) → slice_get (body_ops before) (position_in before op) ≡ Some o
      → body_ops after ≡ set (insert_op (suc (position_in before op))
      (mux_for o (up_ref (position_in before op) (value_ref before r.signal)) (up_ref (position_in before op) (value_ref before r.value)) (result (position_in before op) 0))
      (insert_op (position_in before op) (mux_for o (value_ref before c.condition) (value_ref before c.high) (value_ref before c.low)) (body_ops before)))
      (suc (suc (position_in before op)))
      (plain_register o (result (suc (position_in before op)) 0) (up_ref (suc (position_in before op)) (up_ref (position_in before op) (value_ref before clock))))
  pub rest : drop (suc (suc (suc (position_in before op)))) (ids_of after) ≡ drop (suc (position_in before op)) (ids_of before)
