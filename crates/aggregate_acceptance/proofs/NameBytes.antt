-- The names of leaves are bytes where the names are from which they come.
use Rattle.std.proofs.Common.{ℕ, zero, suc, ◌+◌, ◌^◌, ◌<◌, ◌≤◌, ◌%◌, List, [], ◌∷◌, ◌++◌, arith}
use Rattle.std.specs.Fmt.{decimal}
use Rattle.std.proofs.lemmas.Fmt.{decimal_by_steps_wide}
use Rattle.hw_model.specs.Types.{Name, HwType, FieldTypes}
use Rattle.hw_model.specs.Types.HwType.{int, clock, array, struct}
use Rattle.hw_model.specs.Types.FieldTypes.{no_fields, field}
use Rattle.hw_model.specs.Design.{Op}
use Rattle.mlir_syntax.specs.Numerals.{count_limit}
use Rattle.mlir_syntax.specs.TypeText.{most_open}
use Rattle.stored_form.specs.Bytes.{Each, AreBytes}
use Rattle.stored_form.specs.Limits.{IsType, AreFields, IsAnyType}
use Rattle.aggregate_laws.specs.Aggregates.{first_type, element_names, leaf_names, field_names, name_at, names_from, own_names}

pub bytes_append : (xs ys : List ℕ) → AreBytes xs → AreBytes ys → AreBytes (xs ++ ys)
bytes_append [] ys first second = second
bytes_append (x ∷ xs) ys (here, first) second = (here, bytes_append xs ys first second)

pub decimal_bytes : (n : ℕ) → n < 10 ^ 64 → AreBytes (decimal n)
decimal_bytes =
    decimal_by_steps_wide (λ n ds. AreBytes ds) (λ n small. (omega arith, tt))
    (λ n ds large bytes. bytes_append ds ((48 + n % 10) ∷ []) bytes (let small : n % 10 < 10 = omega arith in omega arith, tt))

pub each_append : {A : Type 0} (P : A → Type 0) (xs ys : List A) → Each P xs → Each P ys → Each P (xs ++ ys)
each_append P [] ys first second = second
each_append P (x ∷ xs) ys (here, first) second = (here, each_append P xs ys first second)

element_bytes : (inner : Name → List Name) → ((name : Name) → AreBytes name → Each AreBytes (inner name)) → (name : Name) → AreBytes name → (k : ℕ) → k ≤ count_limit
    → Each AreBytes (element_names inner name k)
element_bytes inner all name bytes zero few = tt
element_bytes inner all name bytes (suc k) few =
    each_append AreBytes (inner (name ++ 95 ∷ decimal k)) (element_names inner name k)
    (all (name ++ 95 ∷ decimal k) (bytes_append name (95 ∷ decimal k) bytes (omega arith, decimal_bytes k (omega arith))))
    (element_bytes inner all name bytes k (omega arith))

mutual
  pub leaf_bytes : (t : HwType) (room : ℕ) (name : Name) → AreBytes name → IsType t room → Each AreBytes (leaf_names name t)
  leaf_bytes (int w) room name bytes is = (bytes, tt)
  leaf_bytes clock room name bytes is = (bytes, tt)
  leaf_bytes (array n t) zero name bytes (few, opens) = absurd opens
  leaf_bytes (array n t) (suc room) name bytes (few, opens) =
      element_bytes (λ (inner : Name). leaf_names inner t) (λ inner inner_bytes. leaf_bytes t room inner inner_bytes opens) name bytes n (omega arith)
  leaf_bytes (struct fs) zero name bytes is = absurd is
  leaf_bytes (struct fs) (suc room) name bytes is = field_bytes fs room name bytes is

  field_bytes : (fs : FieldTypes) (room : ℕ) (name : Name) → AreBytes name → AreFields fs room → Each AreBytes (field_names name fs)
  field_bytes no_fields room name bytes is = tt
  field_bytes (field f t fs) room name bytes (own, type, rest) =
      each_append AreBytes (leaf_names (name ++ 95 ∷ f) t) (field_names name fs)
      (leaf_bytes t room (name ++ 95 ∷ f) (bytes_append name (95 ∷ f) bytes (omega arith, own)) type)
      (field_bytes fs room name bytes rest)

name_at_bytes : (names : List Name) (i : ℕ) → Each AreBytes names → AreBytes (name_at names i)
name_at_bytes [] i all = tt
name_at_bytes (name ∷ names) zero (first, rest) = first
name_at_bytes (name ∷ names) (suc i) (first, rest) = name_at_bytes names i rest

from_bytes : (name : Name) (t : HwType) (i : ℕ) → AreBytes name → IsAnyType t → AreBytes (names_from name t i)
from_bytes [] t i bytes is = tt
from_bytes (b ∷ name) t i bytes is = name_at_bytes (leaf_names (b ∷ name) t) i (leaf_bytes t most_open (b ∷ name) bytes is)

-- those of an operation's own name
pub own_bytes : (o : Op) → AreBytes o.name → IsAnyType (first_type o) → (i : ℕ) → AreBytes (own_names o i)
own_bytes o bytes is i = from_bytes o.name (first_type o) i bytes is
