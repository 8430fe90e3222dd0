-- Texts as lines, and lines as words.
use Rattle.std.specs.Prelude.{ℕ, Bool, true, false, not, cond, ◌==◌, ◌||◌, ◌+◌, List, [], ◌∷◌}

-- space, tab or CR
abbrev pub is_blank : ℕ → Bool
is_blank b = (b == 32) || ((b == 9) || (b == 13))

-- the byte is put before the first of the pieces, or is a piece of its own where there is none
abbrev pub onto : ℕ → List (List ℕ) → List (List ℕ)
onto b [] = (b ∷ []) ∷ []
onto b (p ∷ ps) = (b ∷ p) ∷ ps

-- the lines of a text: LF ends a line, and the last line may end with the text
unfoldable pub lines : List ℕ → List (List ℕ)
lines [] = []
lines (b ∷ bs) = cond (b == 10) ([] ∷ lines bs) (onto b (lines bs))

-- the bytes begin with one that is no blank
abbrev pub goes_on : List ℕ → Bool
goes_on [] = false
goes_on (b ∷ bs) = not (is_blank b)

-- the words of a line: what stands between blanks
unfoldable pub words : List ℕ → List (List ℕ)
words [] = []
words (b ∷ bs) = cond (is_blank b) (words bs) (cond (goes_on bs) (onto b (words bs)) ((b ∷ []) ∷ words bs))

-- there is no word
abbrev pub is_wordless : List (List ℕ) → Bool
is_wordless [] = true
is_wordless (w ∷ ws) = false

-- how many bytes stand before the first LF, or in all
abbrev pub line_length : List ℕ → ℕ
line_length [] = 0
line_length (b ∷ bs) = cond (b == 10) 0 (line_length bs + 1)

-- how many bytes stand before the first blank, or in all
abbrev pub word_length : List ℕ → ℕ
word_length [] = 0
word_length (b ∷ bs) = cond (is_blank b) 0 (word_length bs + 1)
