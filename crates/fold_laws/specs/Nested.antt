-- Folds by which an operation takes in another one that made an operand of it and has no other use (CIRCT, Comb dialect:
-- canonicalization of comb.add, comb.mul, comb.and, comb.or, comb.xor, comb.extract and comb.concat).
use Rattle.std.specs.Prelude.{ℕ, zero, suc, ◌+◌, Bool, true, false, cond, not, ◌&&◌, nat_eq, List, [], ◌∷◌, ◌++◌, Option, Some, None, slice_get, option_and_then, option_map}
use Rattle.bits_core.specs.Word.{bit}
use Rattle.hw_model.specs.Types.{HwType}
use Rattle.hw_model.specs.Kinds.{Kind, Variadic}
use Rattle.hw_model.specs.Kinds.Variadic.{add, mul, and, or, xor}
use Rattle.hw_model.specs.Kinds.Kind.{variadic, extract, concat}
use Rattle.hw_model.specs.Design.{Ref, Op, result_type}
use Rattle.hw_model.specs.Design.Ref.{result, undefined}
use Rattle.hw_model.specs.Value.{nth_type}
use Rattle.fold_laws.specs.Edits.{Edit, FoldPattern}
use Rattle.fold_laws.specs.Edits.Edit.{changed, replaced, erased}
use Rattle.fold_laws.specs.Unused.{is_result_of}

-- ---- uses

-- how many operands of an operation are results of the operation at a position
abbrev pub uses_among : ℕ → List Ref → ℕ
uses_among i [] = 0
uses_among i (r ∷ rs) = bit (is_result_of i r) + uses_among i rs

-- how many operands of a body are
abbrev pub use_count : ℕ → List Op → ℕ
use_count i [] = 0
use_count i (o ∷ os) = uses_among i o.operands + use_count i os

-- whether exactly one operand of a body is
abbrev pub has_one_use : List Op → ℕ → Bool
has_one_use os i = nat_eq (use_count i os) 1

-- ---- operands that were made by operations with one use

-- the number of an operand, and the operation that made it, with its position
pub record Nested : Type 0 where
  pub number : ℕ
  pub position : ℕ
  pub inner : Op

-- an operand of the operation at position i that is the result of operation j, where that is another one with one use and
-- its kind meets a test
abbrev pub nested_result : (Kind → Bool) → List Op → ℕ → ℕ → Op → Option Nested
nested_result test os i j c =
    cond (test c.kind && (not (nat_eq j i) && has_one_use os j)) (Some (record { number = 0; position = j; inner = c })) None

-- the same of any value
abbrev pub nested_at : (Kind → Bool) → List Op → ℕ → Ref → Option Nested
nested_at test os i (result j zero) = option_and_then (nested_result test os i j) (slice_get os j)
nested_at test os i _ = None

-- what stands one operand later
abbrev pub one_later : Nested → Nested
one_later n = record n { number = suc n.number }

-- the first, or else what stands later
abbrev pub first_or_later : Option Nested → Option Nested → Option Nested
first_or_later (Some n) later = Some n
first_or_later None later = option_map one_later later

-- the one with the lowest number among the operands
abbrev pub first_nested : (Kind → Bool) → List Op → ℕ → List Ref → Option Nested
first_nested test os i [] = None
first_nested test os i (r ∷ rs) = first_or_later (nested_at test os i r) (first_nested test os i rs)

-- ---- operations that take others in

-- a list with others in the place of the element of a number
abbrev pub splice : {A : Type 0} → ℕ → List A → List A → List A
splice n ys [] = []
splice zero ys (x ∷ xs) = ys ++ xs
splice (suc n) ys (x ∷ xs) = x ∷ splice n ys xs

-- a new operation with one result of type t in the place of o, with its dictionary, its `bin` mark and its position
abbrev pub new_op : Op → Kind → List Ref → List HwType → HwType → Op
new_op o kind rs ts t = record {
  kind = kind;
  operands = rs;
  types = ts;
  results = record { type = t; again = false } ∷ [];
  named = 1;
  name = [];
  dictionary = o.dictionary;
  bin = o.bin;
  location = o.location;
}

-- o with the operands of the inner operation in the place of the operand that it made
abbrev pub joined_operation : Op → Nested → Op
joined_operation o n = record o { operands = splice n.number n.inner.operands o.operands }

-- the concat in the place of o, of type t, with the operands of the inner one and their types in that place
abbrev pub joined_concat : Op → HwType → Nested → Op
joined_concat o t n = new_op o concat (splice n.number n.inner.operands o.operands) (splice n.number n.inner.types o.types) t

-- the extract in the place of o, of type t from bit low on of an extract from bit inner_low on
abbrev pub joined_extract : Op → HwType → ℕ → Nested → ℕ → Op
joined_extract o t low n inner_low = new_op o (extract (inner_low + low)) n.inner.operands (nth_type n.inner.types 0 ∷ t ∷ []) t

-- ---- tests of kinds

-- whether two operations of any number of operands are one
abbrev pub same_variadic : Variadic → Variadic → Bool
same_variadic add add = true
same_variadic mul mul = true
same_variadic and and = true
same_variadic or or = true
same_variadic xor xor = true
same_variadic _ _ = false

-- whether a kind is this operation of any number of operands
abbrev pub is_variadic : Variadic → Kind → Bool
is_variadic v (variadic u) = same_variadic v u
is_variadic v _ = false

-- whether a kind is comb.concat
abbrev pub is_concat : Kind → Bool
is_concat concat = true
is_concat _ = false

-- whether a kind is comb.extract
abbrev pub is_extract : Kind → Bool
is_extract (extract low) = true
is_extract _ = false

-- the lowest bit that a comb.extract takes
abbrev pub lowest_bit : Kind → Option ℕ
lowest_bit (extract low) = Some low
lowest_bit _ = None

-- ---- the patterns

-- the edits of an operation o of a kind at position i that takes in the inner one, of the same kind
abbrev pub operand_edits : List Op → ℕ → Op → Kind → Option (List Edit)
operand_edits os i o (variadic v) =
    option_map (λ (n : Nested). changed i (joined_operation o n) ∷ erased n.position undefined ∷ []) (first_nested (is_variadic v) os i o.operands)
operand_edits os i o _ = None

-- add, mul, and, or, xor takes the operands of the first operand's operation of its kind with one use
abbrev pub fold_nested_operand : FoldPattern
fold_nested_operand os i = option_and_then (λ (o : Op). operand_edits os i o o.kind) (slice_get os i)

-- those of an extract o with a result of type t
abbrev pub extract_edits : List Op → ℕ → Op → Kind → HwType → Option (List Edit)
extract_edits os i o (extract low) t =
    option_and_then (λ (n : Nested).
    option_map (λ (m : ℕ). replaced i (joined_extract o t low n m) ∷ erased n.position undefined ∷ []) (lowest_bit n.inner.kind)) (first_nested is_extract os i o.operands)
extract_edits os i o _ t = None

-- an extract of an extract with one use becomes one extract
abbrev pub fold_extract_extract : FoldPattern
fold_extract_extract os i = option_and_then (λ (o : Op). option_and_then (extract_edits os i o o.kind) (result_type o 0)) (slice_get os i)

-- those of a concat o with a result of type t
abbrev pub concat_edits : List Op → ℕ → Op → Kind → HwType → Option (List Edit)
concat_edits os i o concat t =
    option_map (λ (n : Nested). replaced i (joined_concat o t n) ∷ erased n.position undefined ∷ []) (first_nested (is_concat) os i o.operands)
concat_edits os i o _ t = None

-- a concat takes the operands of the first operand's concat with one use
abbrev pub fold_nested_concat : FoldPattern
fold_nested_concat os i = option_and_then (λ (o : Op). option_and_then (concat_edits os i o o.kind) (result_type o 0)) (slice_get os i)
