-- The tokens of a Verilog text (IEEE 1364-2005, 3.1 to 3.7: lexical conventions). Bytes of words that stand together
-- are one word (a name, a keyword, a number, `8'hFF`, `$signed`), operator bytes that stand together one operator, any
-- other byte is a mark alone, and blanks part what they stand between. `^`, `?` and `:` are marks, since a unary operator
-- may touch what is before it, as in `a+^b`; but after a word that has `'` in it `?` is a digit of that number
-- (3.5.1: an alternative for z), as in `1'h1?a`. Operators that no text here has, as `~^`, are parted otherwise than
-- in the standard: such a text is not read.
use Rattle.std.specs.Prelude.{ℕ, Bool, true, false, cond, ◌&&◌, ◌||◌, ◌==◌, nat_le, List, [], ◌∷◌}
use Rattle.hw_model.specs.Types.{Name}

pub data Sort : Type 0 where
  word_byte operator_byte blank mark_byte : Sort

abbrev pub is_among : ℕ → List ℕ → Bool
is_among b [] = false
is_among b (c ∷ cs) = cond (b == c) true (is_among b cs)

abbrev pub is_between : ℕ → ℕ → ℕ → Bool
is_between low high b = nat_le low b && nat_le b high

-- a letter, `_`
abbrev pub is_name_start : ℕ → Bool
is_name_start b = is_between 97 122 b || (is_between 65 90 b || b == 95)

abbrev pub is_digit : ℕ → Bool
is_digit b = is_between 48 57 b

-- a byte of a name: a letter, a digit, `_`, `$`
abbrev pub is_name_byte : ℕ → Bool
is_name_byte b = is_name_start b || (is_digit b || b == 36)

-- a byte of a word: that of a name, or `'`
abbrev pub is_word_byte : ℕ → Bool
is_word_byte b = is_name_byte b || b == 39

-- + - * / % < > = ! & | ~
abbrev pub is_operator_byte : ℕ → Bool
is_operator_byte b = is_among b (43 ∷ 45 ∷ 42 ∷ 47 ∷ 37 ∷ 60 ∷ 62 ∷ 61 ∷ 33 ∷ 38 ∷ 124 ∷ 126 ∷ [])

-- space, tab, newline, formfeed (3.2: white space)
abbrev pub is_blank : ℕ → Bool
is_blank b = is_among b (32 ∷ 9 ∷ 10 ∷ 12 ∷ [])

abbrev pub sort_of : ℕ → Sort
sort_of b = cond (is_word_byte b) word_byte (cond (is_operator_byte b) operator_byte (cond (is_blank b) blank mark_byte))

pub data Piece : Type 0 where
  word : Name → Piece
  operator : Name → Piece
  mark : ℕ → Piece
  gap : Piece

-- a byte of a sort before the pieces of the bytes after it
abbrev pub join : Sort → ℕ → List Piece → List Piece
join word_byte b (word w ∷ ps) = word (b ∷ w) ∷ ps
join word_byte b ps = word (b ∷ []) ∷ ps
join operator_byte b (operator w ∷ ps) = operator (b ∷ w) ∷ ps
join operator_byte b ps = operator (b ∷ []) ∷ ps
join blank b ps = gap ∷ ps
join mark_byte b ps = mark b ∷ ps

-- the sort of a byte, in a number with a base (after a word that has `'` in it) or elsewhere
abbrev pub sort_in : Bool → ℕ → Sort
sort_in based b = cond (based && b == 63) word_byte (sort_of b)

-- whether a number with a base may go on after a byte
abbrev pub goes_on : Bool → ℕ → Bool
goes_on based b = cond (is_word_byte b) (b == 39 || based) (based && b == 63)

-- the pieces of what stands in a number with a base, or elsewhere
abbrev pub pieces_in : Bool → List ℕ → List Piece
pieces_in based [] = []
pieces_in based (b ∷ bs) = join (sort_in based b) b (pieces_in (goes_on based b) bs)

-- the pieces of a text
abbrev pub pieces : List ℕ → List Piece
pieces bs = pieces_in false bs

abbrev pub without_gaps : List Piece → List Piece
without_gaps [] = []
without_gaps (gap ∷ ps) = without_gaps ps
without_gaps (word w ∷ ps) = word w ∷ without_gaps ps
without_gaps (operator w ∷ ps) = operator w ∷ without_gaps ps
without_gaps (mark b ∷ ps) = mark b ∷ without_gaps ps

-- the tokens of a text
abbrev pub tokens : List ℕ → List Piece
tokens bs = without_gaps (pieces bs)
