-- Edits that keep where asynchronous resets come from: input ports with a mark, and constants (CIRCT, Seq dialect:
-- `seq.firreg` with `reset async`).
use Rattle.std.specs.Prelude.{◌≡◌, ℕ, Bool, false, Option, Some, None}
use Rattle.wiring.specs.Wiring.{In}
use Rattle.hw_model.specs.Design.{Op, Module, Design, find_module}
use Rattle.hw_model.specs.Flat.{ResetBy, async_reset_in}
use Rattle.hw_model.specs.Resets.{IsConstantOf}
use Rattle.hw_model.specs.Sound.{body_of}
use Rattle.edit_laws.specs.Edit.{EditedModule}

-- whether port j has a mark, of a module that may be there
abbrev pub has_mark : (Module → ℕ → Bool) → ℕ → Option Module → Bool
has_mark marked j None = false
has_mark marked j (Some m) = marked m j

-- the marks of the modules of a design, as those of another design's modules of the same symbols
abbrev pub marks_by_symbol : Design → (Module → ℕ → Bool) → Module → ℕ → Bool
marks_by_symbol d marked m j = has_mark marked j (find_module d m.symbol)

-- what stands for a constant to which a register is reset without its clock is a constant
abbrev pub KeepsResetValues : (old new : Option Module) → EditedModule old new → Type 0
KeepsResetValues old new edited =
    (o : Op) (r : ResetBy) → In o (body_of old) → async_reset_in o ≡ Some r → IsConstantOf (body_of old) r.value
    → IsConstantOf (body_of new) (edited.edit.stand r.value)
