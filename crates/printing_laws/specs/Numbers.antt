-- How integers are printed: decimal, constants by their signed reading (CIRCT, HW dialect: `hw.constant`).
use Rattle.std.specs.Prelude.{ℕ, ◌+◌, ◌-◌, ◌^◌, Bool, false, cond, ◌&&◌, ◌==◌, nat_lt, nat_le, List, [], ◌∷◌, ◌++◌, codes, decimal, ℤ, pos, negsuc}
use Rattle.hw_model.specs.Types.{HwType}
use Rattle.hw_model.specs.Types.HwType.{int}
use Rattle.hw_model.specs.Kinds.{Literal, Literals}
use Rattle.hw_model.specs.Kinds.Literal.{leaf, parts}
use Rattle.hw_model.specs.Kinds.Literals.{no_literals, literal}

-- a natural number
unfoldable pub count_bytes : ℕ → List ℕ
count_bytes n = decimal n

-- the number after one, also after 2^128 - 1
abbrev pub further_bytes : ℕ → List ℕ
further_bytes n = cond (n == 340282366920938463463374607431768211455) (codes "340282366920938463463374607431768211456") (decimal (n + 1))

-- an integer with its sign
unfoldable pub integer_bytes : ℤ → List ℕ
integer_bytes (pos n) = decimal n
integer_bytes (negsuc n) = codes "-" ++ further_bytes n

-- ---- the signed reading of constants

-- whether a number is the bits of a negative one in an integer type of 2 to 128 bits
abbrev pub is_negative : ℕ → ℕ → Bool
is_negative w n = nat_lt 1 w && (nat_lt w 129 && (nat_le (2 ^ (w - 1)) n && nat_lt n (2 ^ w)))

-- a constant of an integer type as it is printed: signed, where it is in range; i1 stays as it is
abbrev pub shown_number : ℕ → ℤ → ℤ
shown_number w (pos n) = cond (is_negative w n) (negsuc (2 ^ w - 1 - n)) (pos n)
shown_number w (negsuc n) = negsuc n

abbrev pub shown_integer : HwType → ℤ → ℤ
shown_integer (int w) z = shown_number w z
shown_integer _ z = z

-- a constant of the first of some types
abbrev pub shown_by_first : List HwType → ℤ → ℤ
shown_by_first [] z = z
shown_by_first (t ∷ ts) z = shown_integer t z

abbrev mutual
  -- the constants of an aggregate, each shown so
  pub shown_literal : Literal → Literal
  shown_literal (leaf z t) = leaf (shown_integer t z) t
  shown_literal (parts ls) = parts (shown_literals ls)

  pub shown_literals : Literals → Literals
  shown_literals no_literals = no_literals
  shown_literals (literal l ls) = literal (shown_literal l) (shown_literals ls)

-- ---- truth values

-- whether an integer is 0 or 1
abbrev pub is_truth : ℤ → Bool
is_truth (pos n) = nat_lt n 2
is_truth (negsuc n) = false

abbrev pub is_one_bit : HwType → Bool
is_one_bit (int w) = w == 1
is_one_bit _ = false

-- whether an integer of a type is printed as `true` or `false`: 0 and 1 of i1
abbrev pub is_shown_as_truth : HwType → ℤ → Bool
is_shown_as_truth t z = is_one_bit t && is_truth z

-- `true` and `false`
abbrev pub truth_bytes : Bool → List ℕ
truth_bytes b = cond b (codes "true") (codes "false")

-- whether an integer is 1
abbrev pub is_one : ℤ → Bool
is_one (pos n) = n == 1
is_one (negsuc n) = false
