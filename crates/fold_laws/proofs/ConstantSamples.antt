-- The patterns of constants among operands computed on a small body, where they match and where they do not, and what is counted.
use Rattle.std.proofs.Common.{◌≡◌, ℕ, List, [], ◌∷◌, Option, Some, None, refl}
use Rattle.hw_model.specs.Types.HwType.{int}
use Rattle.hw_model.specs.Kinds.Variadic.{add, mul, and, or, xor}
use Rattle.hw_model.specs.Kinds.{Variadic}
use Rattle.hw_model.specs.Kinds.Kind.{variadic, sub}
use Rattle.hw_model.specs.Design.{Ref, Op, no_location}
use Rattle.hw_model.specs.Design.Ref.{result}
use Rattle.hw_model.proofs.Samples.{operation}
use Rattle.fold_laws.specs.ConstantOperands.{fold_two_constants, fold_constant_last}
use Rattle.fold_laws.specs.Fold.{misplaced}
use Rattle.fold_laws.specs.Numbers.{number_op}
use Rattle.fold_laws.specs.Table.{patterns, first_pattern}
use Rattle.fold_laws.proofs.Samples.{bytes, byte_of, output_of, body_with, pattern_of, a, b, k, m, operands_left}

-- ---- two constants

-- what is left where a number is joined: it stands before the operation, which has moved on
abbrev joined_left : Op → Op → ℕ → Variadic → List Ref → Option (List Op)
joined_left c e n v rs = Some (c ∷ e ∷ number_op n (int 8) no_location ∷ operation (variadic v) rs bytes bytes ∷ output_of (result 3 0) ∷ [])

sum_joined : pattern_of fold_two_constants (byte_of 3) (byte_of 5) (operation (variadic add) (k ∷ a ∷ m ∷ b ∷ []) bytes bytes)
    ≡ joined_left (byte_of 3) (byte_of 5) 8 add (a ∷ result 2 0 ∷ b ∷ [])
sum_joined = refl

-- the product of 16 and 17 has 9 bits
product_joined : pattern_of fold_two_constants (byte_of 16) (byte_of 17) (operation (variadic mul) (a ∷ m ∷ k ∷ []) bytes bytes)
    ≡ joined_left (byte_of 16) (byte_of 17) 16 mul (a ∷ result 2 0 ∷ [])
product_joined = refl

-- of three constants the first two
first_two_joined : pattern_of fold_two_constants (byte_of 255) (byte_of 15) (operation (variadic xor) (k ∷ m ∷ k ∷ a ∷ []) bytes bytes)
    ≡ joined_left (byte_of 255) (byte_of 15) 240 xor (result 2 0 ∷ k ∷ a ∷ [])
first_two_joined = refl

one_constant : pattern_of fold_two_constants (byte_of 3) (byte_of 5) (operation (variadic and) (k ∷ a ∷ b ∷ []) bytes bytes) ≡ None
one_constant = refl

difference_of_constants : pattern_of fold_two_constants (byte_of 3) (byte_of 5) (operation sub (k ∷ m ∷ []) bytes bytes) ≡ None
difference_of_constants = refl

-- ---- a constant before another operand

moved_last : pattern_of fold_constant_last (byte_of 3) (byte_of 5) (operation (variadic or) (k ∷ a ∷ m ∷ b ∷ []) bytes bytes)
    ≡ operands_left (byte_of 3) (byte_of 5) (variadic or) (a ∷ m ∷ b ∷ k ∷ [])
moved_last = refl

all_last : pattern_of fold_constant_last (byte_of 3) (byte_of 5) (operation (variadic or) (a ∷ b ∷ k ∷ m ∷ []) bytes bytes) ≡ None
all_last = refl

difference_stays : pattern_of fold_constant_last (byte_of 3) (byte_of 5) (operation sub (k ∷ a ∷ []) bytes bytes) ≡ None
difference_stays = refl

-- 3 stands before two other operands, and 5 before one
misplaced_of_body : misplaced (body_with (byte_of 3) (byte_of 5) (operation (variadic or) (k ∷ a ∷ m ∷ b ∷ []) bytes bytes) (result 2 0)) ≡ 3
misplaced_of_body = refl

misplaced_after : misplaced (body_with (byte_of 3) (byte_of 5) (operation (variadic or) (a ∷ m ∷ b ∷ k ∷ []) bytes bytes) (result 2 0)) ≡ 1
misplaced_after = refl

-- ---- the table: constants alone are evaluated first, a neutral one is dropped before constants are joined

evaluated_first : pattern_of (first_pattern patterns) (byte_of 3) (byte_of 5) (operation (variadic add) (k ∷ m ∷ []) bytes bytes)
    ≡ Some (byte_of 3 ∷ byte_of 5 ∷ number_op 8 (int 8) no_location ∷ output_of (result 2 0) ∷ [])
evaluated_first = refl

neutral_first : pattern_of (first_pattern patterns) (byte_of 0) (byte_of 5) (operation (variadic add) (k ∷ a ∷ m ∷ []) bytes bytes)
    ≡ operands_left (byte_of 0) (byte_of 5) (variadic add) (a ∷ m ∷ [])
neutral_first = refl

none_matches : pattern_of (first_pattern patterns) (byte_of 3) (byte_of 5) (operation (variadic add) (a ∷ b ∷ m ∷ []) bytes bytes) ≡ None
none_matches = refl
