-- A step file: the content of registers, and the inputs of steps.
use Rattle.std.specs.Prelude.{ℕ, cond, ◌+◌, ◌^◌, nat_lt, nat_eq, codes, List, [], ◌∷◌, ◌++◌, length, Result, Ok, Err}
use Rattle.std.specs.Cmp.Lexicographic.{pointwise}
use Rattle.bits_core.specs.Word.{Word}
use Rattle.text_lines.specs.Lines.{lines, words, is_wordless}
use Rattle.step_file.specs.declared.fail.StepCause.{StepCause}
use Rattle.step_file.specs.declared.fail.StepCause.TheVariants.{TooLong, BadLine}
use Rattle.step_file.specs.Rows.{row_of}

-- what a step file says: the content of each register leaf, and for each step the word of each input leaf
pub record Steps : Type 0 where
  pub content : List Word
  pub rows : List (List Word)

-- what further lines give behind this line of a number, or its refusal
abbrev pub on_row : {A : Type 0} → ℕ → Result (List Word) StepCause → (List Word → Result A (ℕ × StepCause)) → Result A (ℕ × StepCause)
on_row n (Err cause) more = Err (n, cause)
on_row n (Ok row) more = more row

-- the steps of lines, of which the first has the number, behind those before them; lines without words are none
abbrev pub rows_from : ℕ → List ℕ → List (List Word) → List (List ℕ) → Result (List (List Word)) (ℕ × StepCause)
rows_from n widths rows [] = Ok rows
rows_from n widths rows (l ∷ ls) = cond (is_wordless (words l)) (rows_from (n + 1) widths rows ls) (on_row n (row_of widths (words l)) (λ row. rows_from (n + 1) widths (rows ++ row ∷ []) ls))

-- the content that the words of a line say: `state`, and a literal for each register leaf
unfoldable pub content_of : List ℕ → List (List ℕ) → Result (List Word) StepCause
content_of registers [] = Err BadLine
content_of registers (w ∷ ws) = cond (pointwise nat_eq w (codes "state")) (row_of registers ws) (Err BadLine)

-- a content with the steps behind it
abbrev pub with_rows : List Word → Result (List (List Word)) (ℕ × StepCause) → Result Steps (ℕ × StepCause)
with_rows content (Err fault) = Err fault
with_rows content (Ok rows) = Ok (record { content = content; rows = rows })

-- what lines say, of which the first has the number: the first line with words is that of the content
abbrev pub steps_from : ℕ → List ℕ → List ℕ → List (List ℕ) → Result Steps (ℕ × StepCause)
steps_from n registers inputs [] = Err (n, BadLine)
steps_from n registers inputs (l ∷ ls) =
    cond (is_wordless (words l)) (steps_from (n + 1) registers inputs ls)
    (on_row n (content_of registers (words l)) (λ content. with_rows content (rows_from (n + 1) inputs [] ls)))

-- what a text of at most 2^26 bytes says, where registers and inputs have leaves of these widths, or the line and the cause of
-- its first refusal
unfoldable pub steps_of : List ℕ → List ℕ → List ℕ → Result Steps (ℕ × StepCause)
steps_of registers inputs text = cond (nat_lt (2 ^ 26) (length text)) (Err (1, TooLong)) (steps_from 1 registers inputs (lines text))
