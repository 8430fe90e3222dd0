-- Lines of a step file as words of hardware.
use Rattle.std.specs.Prelude.{ℕ, cond, ◌==◌, List, [], ◌∷◌, ◌++◌, length, Option, Some, None, Result, Ok, Err}
use Rattle.std.specs.List.{list_all}
use Rattle.bits_core.specs.Word.{Word}
use Rattle.step_file.specs.declared.fail.StepCause.{StepCause}
use Rattle.step_file.specs.declared.fail.StepCause.TheVariants.{BadLine, WrongCount, WrongWidth}
use Rattle.step_file.specs.Literals.{is_literal, word_in}

-- what further words give behind those before them and this one, if it is there
abbrev pub on_word : Option Word → (Word → Option (List Word)) → Option (List Word)
on_word None more = None
on_word (Some x) more = more x

-- the words of hardware that literals write, behind those before them, if each literal has the width that is asked for
abbrev pub words_from : List Word → List ℕ → List (List ℕ) → Option (List Word)
words_from row [] ws = Some row
words_from row (n ∷ ns) [] = None
words_from row (n ∷ ns) (w ∷ ws) = on_word (word_in n w) (λ x. words_from (row ++ x ∷ []) ns ws)

-- a literal has another width where a word of hardware is wanting
abbrev pub or_wrong_width : Option (List Word) → Result (List Word) StepCause
or_wrong_width None = Err WrongWidth
or_wrong_width (Some row) = Ok row

-- the words of hardware that a line of these words writes, one of each width, or why it does not: a word is no literal, there
-- are more or fewer than widths, or a literal has another width, the first of these
unfoldable pub row_of : List ℕ → List (List ℕ) → Result (List Word) StepCause
row_of widths ws = cond (list_all is_literal ws) (cond (length ws == length widths) (or_wrong_width (words_from [] widths ws)) (Err WrongCount)) (Err BadLine)
