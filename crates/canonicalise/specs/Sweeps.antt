-- Sweeps over the operations of a body, at which patterns of the table of folds are tried (MLIR documentation, "Operation
-- canonicalization").
use Rattle.std.specs.Prelude.{◌≡◌, ◌≤◌, ℕ, zero, suc, ◌-◌, Bool, true, false, cond, nat_eq, nat_lt, List, [], ◌∷◌, length, Option, Some, None}
use Rattle.hw_model.specs.Design.{Op}
use Rattle.fold_laws.specs.Edits.{Edit, FoldPattern, edited_by}
use Rattle.fold_laws.specs.Edits.Edit.{changed, replaced, erased, put_in}

-- the position at which a sweep goes on after an edit: that of the operation that was visited, or of the next one where it
-- is replaced or erased
abbrev pub moved : Edit → ℕ → ℕ
moved (changed j o) i = i
moved (replaced j o) i = cond (nat_eq j i) (suc i) i
moved (erased j x) i = cond (nat_lt j i) (i - 1) i
moved (put_in j o) i = cond (nat_lt i j) i (suc i)

-- after edits, the first one first
abbrev pub moved_by : List Edit → ℕ → ℕ
moved_by [] i = i
moved_by (e ∷ es) i = moved_by es (moved e i)

-- a sweep on its way: the operations, the position that is visited next, whether something has changed
pub record Sweep : Type 0 where
  pub ops : List Op
  pub position : ℕ
  pub changed : Bool

-- a sweep before its first visit
abbrev pub sweep_of : List Op → Sweep
sweep_of os = record { ops = os; position = 0; changed = false }

-- a sweep after the edits of the pattern that matches, or at the next operation where none does
abbrev pub with_edits : Sweep → Option (List Edit) → Sweep
with_edits s None = record { ops = s.ops; position = suc s.position; changed = s.changed }
with_edits s (Some es) = record { ops = edited_by es s.ops; position = moved_by es s.position; changed = true }

-- a sweep after one more visit; after the last operation nothing is left to visit
abbrev pub visit : FoldPattern → Sweep → Sweep
visit pattern s = cond (nat_lt s.position (length s.ops)) (with_edits s (pattern s.ops s.position)) s

-- a sweep after so many visits
abbrev pub visits : FoldPattern → ℕ → Sweep → Sweep
visits pattern zero s = s
visits pattern (suc n) s = visit pattern (visits pattern n s)

-- a whole sweep over operations makes these of them, and changes something or not
pub record IsSwept (pattern : FoldPattern) (before : List Op) (any : Bool) (after : List Op) : Type 0 where
  pub count : ℕ
  pub position : ℕ
  pub is : visits pattern count (sweep_of before) ≡ record { ops = after; position = position; changed = any }
  pub ended : length after ≤ position

-- sweeps, so many that change something, and the last one that does not
abbrev pub IsSweptBy : FoldPattern → ℕ → List Op → List Op → Type 0
IsSweptBy pattern zero before after = IsSwept pattern before false after
IsSweptBy pattern (suc n) before after = (between : List Op) × IsSwept pattern before true between × IsSweptBy pattern n between after

-- what sweeps make of operations in the end
pub record IsSweptOut (pattern : FoldPattern) (before after : List Op) : Type 0 where
  pub sweeps : ℕ
  pub swept : IsSweptBy pattern sweeps before after
