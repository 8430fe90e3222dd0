-- Values that may stand for the only result of an operation (MLIR documentation, "Pattern Rewriting": replacing an operation
-- with a value).
use Rattle.std.specs.Prelude.{◌≡◌, ℕ, suc, List}
use Rattle.wiring.specs.Wiring.{In}
use Rattle.hw_model.specs.Design.{Ref, Op}
use Rattle.hw_model.specs.Design.Ref.{result}
use Rattle.edit_laws.specs.Laws.{IsNotOf}

-- a value is no result but the first of the operation at a position
abbrev pub IsNoFurther : ℕ → Ref → Type 0
IsNoFurther i r = (k : ℕ) → r ≡ result i (suc k) → ⊥

-- so is each operand of an operation, of a body
abbrev pub HasNoFurther : ℕ → Op → Type 0
HasNoFurther i o = (r : Ref) → In r o.operands → IsNoFurther i r

abbrev pub HaveNoFurther : ℕ → List Op → Type 0
HaveNoFurther i os = (o : Op) → In o os → HasNoFurther i o

-- the value may stand for the only result of the operation at a position: it is none of its results, and nothing names
-- a further one
pub record MayStand (os : List Op) (i : ℕ) (x : Ref) : Type 0 where
  pub other : IsNotOf i x
  pub no_further : HaveNoFurther i os
