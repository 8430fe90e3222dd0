-- The words of formulas and of proofs.
use Rattle.std.specs.Prelude.{ℕ, true, false, cond, ◌==◌, map, codes, nat_eq, List, [], ◌∷◌, Option, Some, None}
use Rattle.std.specs.Cmp.Lexicographic.{pointwise}
use Rattle.lrat_text.specs.declared.word.Word.{Word}
use Rattle.lrat_text.specs.declared.word.Word.TheVariants.{End, Signed, Delete, Other}
use Rattle.text_lines.specs.Lines.{words}
use Rattle.lrat_text.specs.Numbers.{number}

-- a number without a sign: 0 ends a list
abbrev pub unsigned : Option ℕ → Word
unsigned None = Other
unsigned (Some n) = cond (n == 0) End (Signed (record { variable = n; positive = true }))

-- a number behind a minus sign: there is no -0
abbrev pub negative : Option ℕ → Word
negative None = Other
negative (Some n) = cond (n == 0) Other (Signed (record { variable = n; positive = false }))

-- what a word says: 0, a number other than 0 with its sign, the letter d, or nothing of these
unfoldable pub word_of : List ℕ → Word
word_of [] = Other
word_of (b ∷ bs) = cond (b == 45) (negative (number bs)) (cond (pointwise nat_eq (b ∷ bs) (codes "d")) Delete (unsigned (number (b ∷ bs))))

-- what the words of a line say
abbrev pub line_words : List ℕ → List Word
line_words line = map word_of (words line)
