-- Sizes of a type that may be written.
use Rattle.std.specs.Prelude.{ℕ, Option, Some, None}
use Rattle.hw_model.specs.Types.{HwType}
use Rattle.hw_model.specs.Weight.{element_count, element_leaves}

-- the length of an array, and the leaves of its elements; of no type, 0
abbrev pub length_of : Option HwType → ℕ
length_of None = 0
length_of (Some t) = element_count t

abbrev pub leaves_of : Option HwType → ℕ
leaves_of None = 0
leaves_of (Some t) = element_leaves t
