-- The lines of a run.
use Rattle.std.specs.Prelude.{ℕ, false, codes, List, [], ◌∷◌, ◌++◌, map, length}
use Rattle.bits_core.specs.Word.{Word, number}
use Rattle.verilog_model.specs.Digits.{literal_of}
use Rattle.verilog_model.specs.Text.{expr_text}
use Rattle.miter_blast.specs.Cuts.{cut}

-- a word as a literal (IEEE 1364-2005, 3.5.1: integer constants)
unfoldable pub word_text : Word → List ℕ
word_text w = expr_text (literal_of (length w) false (number w)) []

-- words as literals, each behind a blank
abbrev pub more_words : List Word → List ℕ
more_words [] = []
more_words (w ∷ ws) = codes " " ++ (word_text w ++ more_words ws)

-- words as literals, joined by one blank
abbrev pub joined_words : List Word → List ℕ
joined_words [] = []
joined_words (w ∷ ws) = word_text w ++ more_words ws

-- the line of a step whose outputs have leaves of these words; it is empty where there are none
abbrev pub words_line : List Word → List ℕ
words_line ws = joined_words ws ++ codes "\n"

-- the lines of steps, one after another
abbrev pub words_lines : List (List Word) → List ℕ
words_lines [] = []
words_lines (ws ∷ steps) = words_line ws ++ words_lines steps

-- the lines of a run that gives these outputs, whose leaves have these widths
abbrev pub run_lines : List ℕ → List Word → List ℕ
run_lines widths outputs = words_lines (map (cut widths) outputs)
