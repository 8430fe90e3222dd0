-- What the code answers of rows and of files.
use Rattle.std.specs.Prelude.{◌≡◌, ◌≤◌, ℕ, List, [], ◌∷◌, ◌++◌, map, Option, Some, None, Result, Ok, Err}
use Rattle.bits_core.specs.Word.{Word}
use Rattle.step_file.specs.declared.fail.StepCause.{StepCause}
use Rattle.step_file.specs.declared.fail.StepFail.{StepFail}
use Rattle.step_file.specs.declared.step_file.Row.{Row}
use Rattle.step_file.specs.declared.step_file.StepFile.{StepFile}
use Rattle.step_file.specs.StepFile.{Steps}
use Rattle.step_file.specs.declared.fail.StepFail.TheVariants.{Refused, NoMemory}

-- the row, or why there is none
abbrev pub row_by : Option StepCause → List Word → Result (List Word) StepCause
row_by None row = Ok row
row_by (Some cause) row = Err cause

-- a width that an integer may have
abbrev pub IsWidth : ℕ → Type 0
IsWidth n = (1 ≤ n) × (n ≤ 128)

-- what an answer makes of what a text says: nothing is said where memory is wanting
abbrev pub IsFault : {A : Type 0} → Result A (ℕ × StepCause) → StepFail → Type 0
IsFault says NoMemory = Unit {0}
IsFault says (Refused r) = says ≡ Err (r.line, r.cause)

-- rows as the code has them
abbrev pub rows_in : List Row → List (List Word)
rows_in rows = map (λ r. r.words.items) rows

-- what has been read
abbrev pub steps_in : StepFile → Steps
steps_in f = record { content = f.content.words.items; rows = rows_in f.steps.items }

-- rows without a cause have one more row, which a line says
abbrev pub AddsRow : Result (List Word) StepCause → Option StepCause → List (List Word) → List (List Word) → Type 0
AddsRow says None old new = (row : List Word) × (says ≡ Ok row) × (new ≡ old ++ row ∷ [])
AddsRow says (Some cause) old new = says ≡ Err cause
