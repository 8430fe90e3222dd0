-- Numbers as words say them.
use Rattle.std.specs.Prelude.{ℕ, ◌==◌, ◌&&◌, ◌||◌, Bool, cond, not, List, length, Option, Some, None, nat_le, nat_lt, slice_index}
use Rattle.std.specs.Str.{all_ascii_digits}
use Rattle.std.specs.Str.Parse.{digits_value}

-- decimal digits, one or more, the first of several no zero
abbrev pub is_numeral : List ℕ → Bool
is_numeral text = nat_lt 0 (length text) && (all_ascii_digits text && (length text == 1 || not (slice_index text 0 == 48)))

-- a number, where it is from one to another
abbrev pub if_between : ℕ → ℕ → ℕ → Option ℕ
if_between least most number = cond (nat_le least number && nat_le number most) (Some number) None

-- the number that a text says so, where it is from one to another
abbrev pub number_between : ℕ → ℕ → List ℕ → Option ℕ
number_between least most text = cond (is_numeral text) (if_between least most (digits_value 10 text)) None
