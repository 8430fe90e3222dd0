-- The fields of a line and the numbers in them (AIGER 1.9).
use Rattle.std.specs.Prelude.{ℕ, Bool, false, cond, ◌+◌, ◌-◌, ◌*◌, ◌&&◌, ◌==◌, nat_le, List, [], ◌∷◌, Option, Some, None}
use Rattle.text_lines.specs.Lines.{onto}

-- the fields of a line: what stands before, between and after its blanks; two blanks together have an empty field between them
unfoldable pub fields : List ℕ → List (List ℕ)
fields [] = [] ∷ []
fields (b ∷ bs) = cond (b == 32) ([] ∷ fields bs) (onto b (fields bs))

-- the byte is a decimal digit
abbrev pub is_digit : ℕ → Bool
is_digit b = nat_le 48 b && nat_le b 57

-- the number with one more digit
abbrev pub with_digit : ℕ → ℕ → ℕ
with_digit n b = n * 10 + (b - 48)

-- the number with these digits behind it
abbrev pub number_from : ℕ → List ℕ → Option ℕ
number_from n [] = Some n
number_from n (b ∷ bs) = cond (is_digit b) (number_from (with_digit n b) bs) None

-- a zero stands before further bytes
abbrev pub has_leading_zero : List ℕ → Bool
has_leading_zero [] = false
has_leading_zero (b ∷ []) = false
has_leading_zero (b ∷ c ∷ cs) = b == 48

-- the number that a field writes: one digit or more without a leading zero, of any size
unfoldable pub numeral : List ℕ → Option ℕ
numeral [] = None
numeral (b ∷ bs) = cond (has_leading_zero (b ∷ bs)) None (number_from 0 (b ∷ bs))
