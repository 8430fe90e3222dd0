-- A register takes its next value by other operands, or in another form.
use Rattle.std.specs.Prelude.{◌≡◌, ℕ, true, Some, slice_get}
use Rattle.bits_core.specs.Word.{Word}
use Rattle.hw_model.specs.Design.{Ref, Op, Module, is_register, result_type}
use Rattle.hw_model.specs.Design.Ref.{result}
use Rattle.hw_model.specs.Flat.{register_in, async_reset_in}
use Rattle.hw_model.specs.Meaning.{next_value}
use Rattle.hw_model.specs.Sound.{type_in, OpFits}
use Rattle.edit_laws.specs.Edit.{Holds}
use Rattle.edit_laws.specs.Follows.{Wide}

-- the register o at position i may become o': both are registers with results of the same types and the same
-- asynchronous reset, if any, o' fits, and where the body's values hold and the register has the value that it holds,
-- both load the same
pub record Reloaded (md : Module) (i : ℕ) (o o' : Op) : Type 0 where
  pub there : slice_get md.body i ≡ Some o
  pub old_register : is_register o ≡ true
  pub new_register : is_register o' ≡ true
  pub same_types : (k : ℕ) → result_type o' k ≡ result_type o k
  pub fits : OpFits (type_in md.ports md.body) o'
  pub async_is : async_reset_in o' ≡ async_reset_in o
  pub loads : (τ : Ref → Word) → Holds md.body τ → Wide md.ports md.body τ → (old : Word) → τ (result i 0) ≡ old
      → next_value (register_in o') τ old ≡ next_value (register_in o) τ old
