-- The numbers of a constant's leaves, one by one: within the range of their types, kept as their bits, and readable.
use Rattle.std.proofs.Common.{◌≡◌, ℕ, zero, suc, false, List, [], ◌∷◌, ◌++◌, ℤ, Some, slice_get, subst}
use Rattle.std.specs.Prelude.{⊤}
use Rattle.hw_model.specs.Types.{HwType}
use Rattle.hw_model.specs.Kinds.{Literal, Literals}
use Rattle.hw_model.specs.Kinds.Literal.{leaf, parts}
use Rattle.hw_model.specs.Kinds.Literals.{no_literals, literal}
use Rattle.stored_form.specs.Constants.{kept_integer, kept_literal, kept_literals}
use Rattle.stored_form.specs.Limits.{IsInteger, IsLiteral, AreLiterals}
use Rattle.op_checks.specs.LiteralChecks.{is_outside_type, has_failing_leaf, any_failing_leaf}
use Rattle.op_checks.specs.declared.literal_checks.LeafTest.TheVariants as leaf_test
use Rattle.op_checks.proofs.Widths.{neither}
use Rattle.aggregate_laws.specs.OperationRules.{literal_numbers, literals_numbers, literal_types, literals_types, number_at}

-- what holds of each number and its type
abbrev mutual
  AllOf : (ℤ → HwType → Type 0) → Literal → Type 0
  AllOf P (leaf z t) = P z t
  AllOf P (parts ls) = AllOfList P ls

  AllOfList : (ℤ → HwType → Type 0) → Literals → Type 0
  AllOfList P no_literals = ⊤
  AllOfList P (literal l ls) = AllOf P l × AllOfList P ls

-- of numbers and types in order
abbrev Pairs : (ℤ → HwType → Type 0) → List ℤ → List HwType → Type 0
Pairs P [] [] = ⊤
Pairs P (z ∷ zs) (t ∷ ts) = P z t × Pairs P zs ts
Pairs P [] (t ∷ ts) = ⊥
Pairs P (z ∷ zs) [] = ⊥

pairs_append : (P : ℤ → HwType → Type 0) (zs ys : List ℤ) (ts us : List HwType) → Pairs P zs ts → Pairs P ys us → Pairs P (zs ++ ys) (ts ++ us)
pairs_append P [] ys [] us first second = second
pairs_append P [] ys (t ∷ ts) us first second = absurd first
pairs_append P (z ∷ zs) ys [] us first second = absurd first
pairs_append P (z ∷ zs) ys (t ∷ ts) us (here, first) second = (here, pairs_append P zs ys ts us first second)

mutual
  pairs_of : (P : ℤ → HwType → Type 0) (l : Literal) → AllOf P l → Pairs P (literal_numbers l) (literal_types l)
  pairs_of P (leaf z t) all = (all, tt)
  pairs_of P (parts ls) all = pairs_of_list P ls all

  pairs_of_list : (P : ℤ → HwType → Type 0) (ls : Literals) → AllOfList P ls → Pairs P (literals_numbers ls) (literals_types ls)
  pairs_of_list P no_literals all = tt
  pairs_of_list P (literal l ls) (first, rest) =
      pairs_append P (literal_numbers l) (literals_numbers ls) (literal_types l) (literals_types ls) (pairs_of P l first) (pairs_of_list P ls rest)

pair_at : (P : ℤ → HwType → Type 0) (zs : List ℤ) (ts : List HwType) → Pairs P zs ts → (i : ℕ) (u : HwType) → slice_get ts i ≡ Some u → P (number_at zs i) u
pair_at P [] [] all i u is = cc
pair_at P [] (t ∷ ts) all i u is = absurd all
pair_at P (z ∷ zs) [] all i u is = cc
pair_at P (z ∷ zs) (t ∷ ts) (first, rest) zero u is = let same : t ≡ u = cc in subst (P z) same first
pair_at P (z ∷ zs) (t ∷ ts) (first, rest) (suc i) u is = pair_at P zs ts rest i u is

number_holds : (P : ℤ → HwType → Type 0) (ls : Literals) → AllOfList P ls → (i : ℕ) (u : HwType) → slice_get (literals_types ls) i ≡ Some u
    → P (number_at (literals_numbers ls) i) u
number_holds P ls all i u is = pair_at P (literals_numbers ls) (literals_types ls) (pairs_of_list P ls all) i u is

-- ---- ranges

mutual
  in_range : (l : Literal) → has_failing_leaf leaf_test.Range l ≡ false → AllOf (λ z t. is_outside_type z t ≡ false) l
  in_range (leaf z t) none = none
  in_range (parts ls) none = all_in_range ls none

  all_in_range : (ls : Literals) → any_failing_leaf leaf_test.Range ls ≡ false → AllOfList (λ z t. is_outside_type z t ≡ false) ls
  all_in_range no_literals none = tt
  all_in_range (literal l ls) none =
      let both = neither (has_failing_leaf leaf_test.Range l) (any_failing_leaf leaf_test.Range ls) none in
      (in_range l both.0, all_in_range ls both.1)

pub number_in_range : (ls : Literals) → any_failing_leaf leaf_test.Range ls ≡ false → (i : ℕ) (u : HwType) → slice_get (literals_types ls) i ≡ Some u
    → is_outside_type (number_at (literals_numbers ls) i) u ≡ false
number_in_range ls none i u is = number_holds (λ z t. is_outside_type z t ≡ false) ls (all_in_range ls none) i u is

-- ---- numbers that are kept

mutual
  is_kept : (l : Literal) → kept_literal l ≡ l → AllOf (λ z t. kept_integer t z ≡ z) l
  is_kept (leaf z t) same = cc
  is_kept (parts ls) same = let inner : kept_literals ls ≡ ls = cc in all_kept ls inner

  all_kept : (ls : Literals) → kept_literals ls ≡ ls → AllOfList (λ z t. kept_integer t z ≡ z) ls
  all_kept no_literals same = tt
  all_kept (literal l ls) same =
      let first : kept_literal l ≡ l = cc in
      let rest : kept_literals ls ≡ ls = cc in
      (is_kept l first, all_kept ls rest)

pub number_kept : (ls : Literals) → kept_literals ls ≡ ls → (i : ℕ) (u : HwType) → slice_get (literals_types ls) i ≡ Some u
    → kept_integer u (number_at (literals_numbers ls) i) ≡ number_at (literals_numbers ls) i
number_kept ls same i u is = number_holds (λ z t. kept_integer t z ≡ z) ls (all_kept ls same) i u is

-- ---- numbers that are read

mutual
  is_read : (l : Literal) (room : ℕ) → IsLiteral l room → AllOf (λ z t. IsInteger z) l
  is_read (leaf z t) room is = is.0
  is_read (parts ls) zero is = absurd is
  is_read (parts ls) (suc room) is = all_read ls room is

  all_read : (ls : Literals) (room : ℕ) → AreLiterals ls room → AllOfList (λ z t. IsInteger z) ls
  all_read no_literals room are = tt
  all_read (literal l ls) room (first, rest) = (is_read l room first, all_read ls room rest)

pub number_read : (ls : Literals) (room : ℕ) → AreLiterals ls room → (i : ℕ) (u : HwType) → slice_get (literals_types ls) i ≡ Some u → IsInteger (number_at (literals_numbers ls) i)
number_read ls room are i u is = number_holds (λ z t. IsInteger z) ls (all_read ls room are) i u is
