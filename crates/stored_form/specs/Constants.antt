-- Constants of integer types are kept as the numbers that their bits are.
use Rattle.std.specs.Prelude.{ℕ, ◌-◌, ◌^◌, Bool, cond, ◌&&◌, nat_lt, List, [], ◌∷◌, ℤ, pos, negsuc}
use Rattle.hw_model.specs.Types.{HwType}
use Rattle.hw_model.specs.Types.HwType.{int}
use Rattle.hw_model.specs.Kinds.{Literal, Literals}
use Rattle.hw_model.specs.Kinds.Literal.{leaf, parts}
use Rattle.hw_model.specs.Kinds.Literals.{no_literals, literal}

-- whether a constant -1 - n is in the range of an integer type that values have, of 1 to 128 bits
abbrev pub has_negative : ℕ → ℕ → Bool
has_negative w n = nat_lt 0 w && (nat_lt w 129 && nat_lt n (2 ^ (w - 1)))

-- a constant of an integer type stands for its bits where it is in range: it is kept as the number that they are
abbrev pub kept_number : ℕ → ℤ → ℤ
kept_number w (pos n) = pos n
kept_number w (negsuc n) = cond (has_negative w n) (pos (2 ^ w - 1 - n)) (negsuc n)

abbrev pub kept_integer : HwType → ℤ → ℤ
kept_integer (int w) z = kept_number w z
kept_integer _ z = z

abbrev pub kept_by_first : List HwType → ℤ → ℤ
kept_by_first [] z = z
kept_by_first (t ∷ ts) z = kept_integer t z

abbrev mutual
  -- the constants of an aggregate, each kept so
  pub kept_literal : Literal → Literal
  kept_literal (leaf z t) = leaf (kept_integer t z) t
  kept_literal (parts ls) = parts (kept_literals ls)

  pub kept_literals : Literals → Literals
  kept_literals no_literals = no_literals
  kept_literals (literal l ls) = literal (kept_literal l) (kept_literals ls)
