-- Numbers in decimal digits.
use Rattle.std.specs.Prelude.{ℕ, Bool, cond, nat_le, nat_lt, ◌+◌, ◌-◌, ◌*◌, ◌^◌, ◌&&◌, List, [], ◌∷◌, Option, Some, None}

-- the byte is a digit
abbrev pub is_digit : ℕ → Bool
is_digit b = nat_le 48 b && nat_le b 57

-- the number with one more digit
abbrev pub with_digit : ℕ → ℕ → ℕ
with_digit n b = n * 10 + (b - 48)

-- the byte is a digit, and the number with this digit is below 2^64
abbrev pub takes_digit : ℕ → ℕ → Bool
takes_digit n b = is_digit b && nat_lt (with_digit n b) (2 ^ 64)

-- the number with these digits behind it, if it is below 2^64
abbrev pub number_from : ℕ → List ℕ → Option ℕ
number_from n [] = Some n
number_from n (b ∷ bs) = cond (takes_digit n b) (number_from (with_digit n b) bs) None

-- the number that a word of one digit or more writes, if it is below 2^64; leading zeros are read
unfoldable pub number : List ℕ → Option ℕ
number [] = None
number (b ∷ bs) = number_from 0 (b ∷ bs)
