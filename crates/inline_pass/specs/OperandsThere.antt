-- Bodies whose operands are there (CIRCT, HW dialect: hw.module).
use Rattle.std.specs.Prelude.{◌≡◌, ℕ, ◌≤◌, ◌<◌, List, length, Some, slice_get}
use Rattle.wiring.specs.Wiring.{In}
use Rattle.hw_model.specs.Design.{Ref, Op}
use Rattle.hw_model.specs.Design.Ref.{result}

-- a result of the operation at position j that is there; from position p on, one of those that it has
pub record IsResultThere (p : ℕ) (os : List Op) (j k : ℕ) : Type 0 where
  pub op : Op
  pub there : slice_get os j ≡ Some op
  pub within : p ≤ j → k < length op.results

-- the value is a port, nothing, or a result that is there
abbrev pub IsThereFrom : ℕ → List Op → Ref → Type 0
IsThereFrom p os r = (j k : ℕ) → r ≡ result j k → IsResultThere p os j k

-- so is each operand
abbrev pub HaveThereFrom : ℕ → List Op → Type 0
HaveThereFrom p os = (o : Op) (r : Ref) → In o os → In r o.operands → IsThereFrom p os r
