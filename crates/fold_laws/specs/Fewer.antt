-- Folds by which an operation of any number of operands loses operands that decide nothing (CIRCT, Comb dialect: folds of
-- its operations).
use Rattle.std.specs.Prelude.{ℕ, Bool, cond, List, [], ◌∷◌, Option, Some, None, slice_get, option_and_then, option_map}
use Rattle.hw_model.specs.Kinds.{Kind, Variadic}
use Rattle.hw_model.specs.Kinds.Variadic.{add, mul, and, or, xor}
use Rattle.hw_model.specs.Kinds.Kind.{variadic}
use Rattle.hw_model.specs.Design.{Ref, Op}
use Rattle.ir_store.specs.Positions.{same_ref}
use Rattle.fold_laws.specs.Constants.{is_constant_where, is_zero, is_one, is_ones}
use Rattle.fold_laws.specs.Edits.{Edit, FoldPattern}
use Rattle.fold_laws.specs.Edits.Edit.{changed}

-- ---- operations with other operands

-- the operands that an operation has after a change, by its kind and its operands; None where it does not change
abbrev pub Operands : Type 0
Operands = List Op → Variadic → List Ref → Option (List Ref)

-- o at position i with the operands of the change
abbrev pub with_fewer : Operands → List Op → ℕ → Op → Kind → Option (List Edit)
with_fewer change os i o (variadic v) = option_map (λ (rs : List Ref). changed i (record o { operands = rs }) ∷ []) (change os v o.operands)
with_fewer change os i o _ = None

-- the pattern by which an operation of any number of operands has those of the change
abbrev pub by_operands : Operands → FoldPattern
by_operands change os i = option_and_then (λ (o : Op). with_fewer change os i o o.kind) (slice_get os i)

-- ---- lists

-- a list without the first value that meets a test; None where none does
abbrev pub without_first : (Ref → Bool) → List Ref → Option (List Ref)
without_first test [] = None
without_first test (x ∷ xs) = cond (test x) (Some xs) (option_map (λ (ys : List Ref). x ∷ ys) (without_first test xs))

-- the same of two values or more
abbrev pub without_first_of_more : (Ref → Bool) → List Ref → Option (List Ref)
without_first_of_more test (x ∷ y ∷ rs) = without_first test (x ∷ y ∷ rs)
without_first_of_more test _ = None

-- what the first gives, or else the second
abbrev pub or_else : Option (List Ref) → Option (List Ref) → Option (List Ref)
or_else (Some xs) o = Some xs
or_else None o = o

-- a list without the second one of two equal values, the first of the earliest such pair; None where all differ
abbrev pub without_repeat : List Ref → Option (List Ref)
without_repeat [] = None
without_repeat (x ∷ xs) =
    or_else (option_map (λ (ys : List Ref). x ∷ ys) (without_first (same_ref x) xs)) (option_map (λ (ys : List Ref). x ∷ ys) (without_repeat xs))

-- a list without two equal values, the first of the earliest such pair; None where all differ
abbrev pub without_pair : List Ref → Option (List Ref)
without_pair [] = None
without_pair (x ∷ xs) = or_else (without_first (same_ref x) xs) (option_map (λ (ys : List Ref). x ∷ ys) (without_pair xs))

-- the same of three values or more
abbrev pub without_pair_of_more : List Ref → Option (List Ref)
without_pair_of_more (x ∷ y ∷ z ∷ rs) = without_pair (x ∷ y ∷ z ∷ rs)
without_pair_of_more _ = None

-- ---- the operations

-- an operand 0 of add
abbrev pub add_zero : Operands
add_zero os add rs = without_first_of_more (is_constant_where is_zero os) rs
add_zero os _ rs = None

-- an operand 0 of or
abbrev pub or_zero : Operands
or_zero os or rs = without_first_of_more (is_constant_where is_zero os) rs
or_zero os _ rs = None

-- an operand 0 of xor
abbrev pub xor_zero : Operands
xor_zero os xor rs = without_first_of_more (is_constant_where is_zero os) rs
xor_zero os _ rs = None

-- an operand of ones of and
abbrev pub and_ones : Operands
and_ones os and rs = without_first_of_more (is_constant_where is_ones os) rs
and_ones os _ rs = None

-- an operand 1 of mul
abbrev pub mul_one : Operands
mul_one os mul rs = without_first_of_more (is_constant_where is_one os) rs
mul_one os _ rs = None

-- an operand of and, or that stands earlier too
abbrev pub repeated_operand : Operands
repeated_operand os and rs = without_repeat rs
repeated_operand os or rs = without_repeat rs
repeated_operand os _ rs = None

-- two equal operands of xor, where others are left
abbrev pub xor_pair : Operands
xor_pair os xor rs = without_pair_of_more rs
xor_pair os _ rs = None

-- ---- the patterns

-- add of two operands or more drops its first operand 0
abbrev pub fold_add_zero : FoldPattern
fold_add_zero = by_operands add_zero

-- or of two operands or more drops its first operand 0
abbrev pub fold_or_zero : FoldPattern
fold_or_zero = by_operands or_zero

-- xor of two operands or more drops its first operand 0
abbrev pub fold_xor_zero : FoldPattern
fold_xor_zero = by_operands xor_zero

-- and of two operands or more drops its first operand of ones
abbrev pub fold_and_ones : FoldPattern
fold_and_ones = by_operands and_ones

-- mul of two operands or more drops its first operand 1
abbrev pub fold_mul_one : FoldPattern
fold_mul_one = by_operands mul_one

-- and, or drops an operand that stands earlier too
abbrev pub fold_repeated : FoldPattern
fold_repeated = by_operands repeated_operand

-- xor of three operands or more drops two equal ones
abbrev pub fold_xor_pair : FoldPattern
fold_xor_pair = by_operands xor_pair
