-- Results and the types that an operation gives them, one after another.
use Rattle.std.proofs.Common.{◌≡◌, ◌↔◌, IsTrue, ℕ, ◌+◌, ◌<◌, Bool, true, false, List, [], ◌∷◌, Option, Some, None, length, map, drop, get_or, sym, ap, ap₂, refl, subst, ◌∙◌}
use Rattle.std.proofs.lemmas.List.{drop_more}
use Rattle.std.proofs.lemmas.Bool.{false≢true}
use Rattle.hw_model.specs.Types.{HwType}
use Rattle.hw_model.specs.Types.HwType.{int}
use Rattle.hw_model.specs.Design.{OpResult}
use Rattle.hw_model.specs.SameType.{same_type, types_apart}
use Rattle.type_inference.specs.SettledTypes.{is_settled_as}
use Rattle.stored_form.specs.Bytes.{Each}
use Rattle.stored_form.specs.ResultTypes.{HaveTypes, type_or_none}

-- a test of types says that they are one
pub type_told : (t u : HwType) (r : Bool) → r ≡ same_type t u → IsTrue r ↔ (t ≡ u)
type_told t u r is = (λ h. types_apart.from t u (sym is ∙ h), λ same. is ∙ rw same (types_apart.self u))

-- a type is the settled one, or the one that stands for none where none is settled
pub settled_or_none : (t : HwType) (x y : Option HwType) (r n : Bool) → r ≡ is_settled_as t x n → x ≡ y → n ≡ same_type t (type_or_none None) → r ≡ same_type t (type_or_none y)
settled_or_none t x y r n is same none = is ∙ ap₂ (λ z m. is_settled_as t z m) same none ∙ as_none y
  where
    as_none : (z : Option HwType) → is_settled_as t z (same_type t (type_or_none None)) ≡ same_type t (type_or_none z)
    as_none None = refl
    as_none (Some u) = refl

-- results have no types
abbrev pub IsNone : OpResult → Type 0
IsNone r = r.type ≡ int 0

pub each_none : (rs : List OpResult) → HaveTypes rs [] → Each IsNone rs
each_none [] h = tt
each_none (r ∷ rs) h = (h.0, each_none rs h.1)

pub none_are : (rs : List OpResult) → Each IsNone rs → HaveTypes rs []
none_are [] h = tt
none_are (r ∷ rs) h = (h.0, none_are rs h.1)

-- the first result has the first type
pub first_typed : (all : List OpResult) (r : OpResult) (rs : List OpResult) (t : Option HwType) (a b : Bool)
    → all ≡ r ∷ rs → a ≡ same_type r.type (type_or_none t) → a ≡ true → (IsTrue b ↔ HaveTypes rs []) → IsTrue b ↔ HaveTypes all (t ∷ [])
first_typed all r rs t a b e is alike says =
    let told : IsTrue a ↔ (r.type ≡ type_or_none t) = type_told r.type (type_or_none t) a is in
    rw e (λ h. (told.0 alike, says.0 h), λ h. says.1 h.1)

-- it has another one
pub first_other : (all : List OpResult) (r : OpResult) (rs : List OpResult) (t : Option HwType) (a : Bool)
    → all ≡ r ∷ rs → a ≡ same_type r.type (type_or_none t) → a ≡ false → IsTrue a ↔ HaveTypes all (t ∷ [])
first_other all r rs t a e is other =
    let told : IsTrue a ↔ (r.type ≡ type_or_none t) = type_told r.type (type_or_none t) a is in
    rw e (λ said. absurd (false≢true (sym other ∙ said)), λ h. told.1 h.0)

-- results that are left have the types that are left, where all have all
module _ {A B : Type 0} (view : A → OpResult) (typed : B → HwType) (due_of : List B → List (Option HwType))
    (step : (x : B) (xs : List B) → due_of (x ∷ xs) ≡ Some (typed x) ∷ due_of xs)
    (all : List OpResult) (due : List (Option HwType)) (rest : List A) (xs : List B) (i : ℕ) (x : B)
    (below : i < length xs) (is : x ≡ get_or xs i x)
    (left : HaveTypes all due ↔ HaveTypes (map view rest) (due_of (drop i xs))) where
  -- the first type that is left
  first_due : due_of (drop i xs) ≡ Some (typed x) ∷ due_of (drop (i + 1) xs)
  first_due = ap due_of (drop_more xs i x below ∙ ap (λ (y : B). y ∷ drop (i + 1) xs) (sym is)) ∙ step x (drop (i + 1) xs)

  seen : (r : A) (rs : List A) → rest ≡ r ∷ rs → HaveTypes all due ↔ HaveTypes (view r ∷ map view rs) (Some (typed x) ∷ due_of (drop (i + 1) xs))
  seen r rs e =
      subst (λ (ts : List (Option HwType)). HaveTypes all due ↔ HaveTypes (view r ∷ map view rs) ts) first_due
      (subst (λ (qs : List A). HaveTypes all due ↔ HaveTypes (map view qs) (due_of (drop i xs))) e left)

  pub typed_more : (r : A) (rs : List A) (a : Bool) → rest ≡ r ∷ rs → a ≡ same_type (view r).type (typed x) → a ≡ true
      → HaveTypes all due ↔ HaveTypes (map view rs) (due_of (drop (i + 1) xs))
  typed_more r rs a e says alike =
      let told : IsTrue a ↔ ((view r).type ≡ typed x) = type_told (view r).type (typed x) a says in
      (λ h. ((seen r rs e).0 h).1, λ h. (seen r rs e).1 (told.0 alike, h))

  -- one has another type
  pub not_typed : (r : A) (rs : List A) (a : Bool) → rest ≡ r ∷ rs → a ≡ same_type (view r).type (typed x) → a ≡ false → IsTrue false ↔ HaveTypes all due
  not_typed r rs a e says other =
      let told : IsTrue a ↔ ((view r).type ≡ typed x) = type_told (view r).type (typed x) a says in
      (λ never. absurd (false≢true never), λ h. absurd (false≢true (sym other ∙ told.1 ((seen r rs e).0 h).0)))
