-- What is asked of a body that patterns read: no operand names what is not there, and constants are words.
use Rattle.std.specs.Prelude.{◌≡◌, ℕ, ℤ, ◌≤◌, Option, Some, slice_get, ⊤}
use Rattle.hw_model.specs.Types.{HwType}
use Rattle.hw_model.specs.Types.HwType.{int}
use Rattle.hw_model.specs.Kinds.{Kind}
use Rattle.hw_model.specs.Kinds.Kind.{constant}
use Rattle.hw_model.specs.Design.{Op, result_type}
use Rattle.ir_store.specs.declared.body.Body.{Body}
use Rattle.ir_store.specs.Bodies.{ops_of}
use Rattle.ir_store.specs.Live.{AreLive}
use Rattle.body_edits.specs.Views.{body_ops}

-- a number of bits that a word may have
pub record IsWidth (w : ℕ) : Type 0 where
  pub some : 1 ≤ w
  pub few : w ≤ 128

pub record IsReadable (b : Body) : Type 0 where
  pub live : AreLive (ops_of b)
  pub words : (i : ℕ) (o : Op) (z : ℤ) (w : ℕ) → slice_get (body_ops b) i ≡ Some o → o.kind ≡ constant z → result_type o 0 ≡ Some (int w) → IsWidth w

-- a constant of an integer type is a word
abbrev pub MayBeWord : Kind → Option HwType → Type 0
MayBeWord (constant z) (Some (int w)) = IsWidth w
MayBeWord _ _ = ⊤
