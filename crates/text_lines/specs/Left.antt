-- What is left of lines and of words.
use Rattle.std.specs.Prelude.{ℕ, List}
use Rattle.text_lines.specs.declared.lines.Lines.{Lines}
use Rattle.text_lines.specs.declared.words.Words.{Words}
use Rattle.text_lines.specs.Lines.{lines, words}

-- the lines that are left
abbrev pub lines_left : Lines → List (List ℕ)
lines_left l = lines l.rest.now

-- the words that are left
abbrev pub words_left : Words → List (List ℕ)
words_left w = words w.rest.now
