-- Patterns by which constants among the operands of an operation of any number of them are joined, or moved after the others (CIRCT,
-- Comb dialect: canonicalization of its operations).
use Rattle.std.specs.Prelude.{ℕ, suc, Bool, false, cond, not, ◌&&◌, ◌||◌, map, List, [], ◌∷◌, ◌++◌, length, Option, Some, None, slice_get, option_and_then, option_map}
use Rattle.bits_core.specs.Word.{Word, number}
use Rattle.hw_model.specs.Types.{HwType}
use Rattle.hw_model.specs.Kinds.{Kind, Variadic}
use Rattle.hw_model.specs.Kinds.Kind.{variadic}
use Rattle.hw_model.specs.Design.{Ref, Op, result_type}
use Rattle.hw_model.specs.Design.Ref.{result}
use Rattle.hw_model.specs.Value.{variadic_value}
use Rattle.edit_laws.specs.Laws.{up_ref}
use Rattle.fold_laws.specs.Constants.{constant_at}
use Rattle.fold_laws.specs.Edits.{Edit, FoldPattern}
use Rattle.fold_laws.specs.Edits.Edit.{changed, put_in}
use Rattle.fold_laws.specs.Fewer.{Operands, by_operands}
use Rattle.fold_laws.specs.Fold.{is_constant_in}
use Rattle.fold_laws.specs.Numbers.{number_op}

-- ---- a constant before another operand

-- whether some value does not meet a test
abbrev pub has_other : (Ref → Bool) → List Ref → Bool
has_other test [] = false
has_other test (x ∷ xs) = not (test x) || has_other test xs

-- a list with the first value that meets a test before one that does not moved to the end; None where there is none
abbrev pub with_first_last : (Ref → Bool) → List Ref → Option (List Ref)
with_first_last test [] = None
with_first_last test (x ∷ xs) = cond (test x && has_other test xs) (Some (xs ++ x ∷ [])) (option_map (λ (ys : List Ref). x ∷ ys) (with_first_last test xs))

-- the first constant before another operand, as the last operand
abbrev pub constant_last : Operands
constant_last os v rs = with_first_last (is_constant_in os) rs

-- ---- two constants

abbrev pub with_word : Option Word → List Word → List Word
with_word None ws = ws
with_word (Some w) ws = w ∷ ws

-- the words of the constants among values, in order
abbrev pub constants_among : List Op → List Ref → List Word
constants_among os [] = []
constants_among os (r ∷ rs) = with_word (constant_at os r) (constants_among os rs)

-- the number of an operation's value on the first two words; None where there are fewer
abbrev pub joined_number : Variadic → List Word → Option ℕ
joined_number v (x ∷ y ∷ ws) = Some (number (variadic_value v (length x) (x ∷ y ∷ [])))
joined_number v _ = None

-- values as others, with c in the place of the first one that meets a test
abbrev pub with_first_as : (Ref → Bool) → (Ref → Ref) → Ref → List Ref → List Ref
with_first_as test f c [] = []
with_first_as test f c (x ∷ xs) = cond (test x) (c ∷ map f xs) (f x ∷ with_first_as test f c xs)

-- values as others, without the first one that meets a test, and with c in the place of the second one
abbrev pub with_two_as : (Ref → Bool) → (Ref → Ref) → Ref → List Ref → List Ref
with_two_as test f c [] = []
with_two_as test f c (x ∷ xs) = cond (test x) (with_first_as test f c xs) (f x ∷ with_two_as test f c xs)

-- the operation of position i once a constant stands there, in the place of its first two constants
abbrev pub with_joined : List Op → ℕ → Op → Op
with_joined os i o = record o { operands = with_two_as (is_constant_in os) (up_ref i) (result i 0) o.operands }

-- the edits by which an operation with a result of type t has one constant in the place of two
abbrev pub joining_edits : List Op → ℕ → Op → HwType → Kind → Option (List Edit)
joining_edits os i o t (variadic v) =
    option_map (λ (n : ℕ). put_in i (number_op n t o.location) ∷ changed (suc i) (with_joined os i o) ∷ []) (joined_number v (constants_among os o.operands))
joining_edits os i o t _ = None

-- ---- the patterns

-- add, mul, and, or, xor with two constants has the constant of their value in the place of the second one
abbrev pub fold_two_constants : FoldPattern
fold_two_constants os i = option_and_then (λ (o : Op). option_and_then (λ (t : HwType). joining_edits os i o t o.kind) (result_type o 0)) (slice_get os i)

-- add, mul, and, or, xor with a constant before another operand has the first such constant as its last operand
abbrev pub fold_constant_last : FoldPattern
fold_constant_last = by_operands constant_last
