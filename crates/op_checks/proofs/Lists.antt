-- Lists of types, of fields and of constants.
use Rattle.std.proofs.Common.{◌≡◌, ℕ, zero, suc, Bool, true, false, ◌||◌, List, [], ◌∷◌, map, length, refl, ap, sym, ◌∙◌, ◌==◌, arith, ◌⊎◌, inl, inr, ◌<◌, ◌≤◌, get_or}
use Rattle.std.specs.Prelude.{not, Option, Some, None, slice_get}
use Rattle.std.proofs.lemmas.Bool.Decides.{nat_tests}
use Rattle.hw_model.specs.Types.{HwType}
use Rattle.hw_model.specs.Types.FieldTypes.{no_fields}
use Rattle.hw_model.specs.Kinds.{Literal as HwLiteral, Literals}
use Rattle.hw_model.specs.Kinds.Literals.{no_literals, literal}
use Rattle.hw_model.specs.Sound.{field_list}
use Rattle.hw_model.specs.Design.{OpResult}
use Rattle.hw_model.specs.TypeViews.{NamedType, type_of, fields_of}
use Rattle.hw_model.specs.KindViews.{literals_of}
use Rattle.type_inference.specs.ResultTypes.{first_type}
use Rattle.ir_store.specs.OperationViews.{types_in, result_of}
use Rattle.type_inference.specs.SettledTypes.{is_settled_as}
use Rattle.ir_store.specs.ShortLists.{short_items}
use Rattle.ir_store.specs.declared.operation.NewResult.{NewResult}
use Rattle.hw_model.specs.declared.types.Ty.{Ty}
use Rattle.ir_store.specs.declared.short_list.ShortList.{ShortList}
use Rattle.op_checks.specs.TypeChecks.{is_without_fields}
use Rattle.op_checks.specs.TypeLists.{known_types, settled_at, differs, differ}
use Rattle.op_checks.specs.LiteralChecks.{literal_count, literals_differ, are_miscounted}
use Rattle.op_checks.specs.OwnViews.{result_types_in}

-- nothing differs from no types
pub none_differ : (xs : List (Option HwType)) → differ xs [] ≡ false
none_differ [] = refl
none_differ (x ∷ xs) = refl

or_false : (b : Bool) → b || false ≡ b
or_false true = refl
or_false false = refl

-- against one type only the first is compared
pub one_differs : (rs : List HwType) (x : Option HwType) → differ (known_types rs) (x ∷ []) ≡ differs (first_type rs) x
one_differs [] x = refl
one_differs (r ∷ rs) x = rw (none_differ (known_types rs)) (or_false (differs (Some r) x))

-- a type is another one than the settled one
pub settled_otherwise : (t : HwType) (x y : Option HwType) (r : Bool) → r ≡ is_settled_as t x true → x ≡ y → not r ≡ differs (Some t) y
settled_otherwise t x y r is same = ap not (is ∙ ap (λ z. is_settled_as t z true) same) ∙ otherwise y
  where
    otherwise : (z : Option HwType) → not (is_settled_as t z true) ≡ differs (Some t) z
    otherwise None = refl
    otherwise (Some u) = refl

pub first_seen : {A : Type 0} (view : A → HwType) (xs : List A) (x : A) → Some x ≡ slice_get xs 0 → first_type (map view xs) ≡ Some (view x)
first_seen view [] x h = cc
first_seen view (y ∷ xs) x h = let e : x ≡ y = cc in cc

-- lists of fields and of constants by their lengths
pub without_fields : {A : Type 0} (view : A → NamedType) (xs : List A) → is_without_fields (fields_of (map view xs)) ≡ (length xs == 0)
without_fields view [] = refl
without_fields view (x ∷ xs) = grind (arith, nat_tests)

pub fields_counted : {A : Type 0} (view : A → NamedType) (xs : List A) → length (field_list (fields_of (map view xs))) ≡ length xs
fields_counted view [] = refl
fields_counted view (x ∷ xs) = ap suc (fields_counted view xs)

pub literals_counted : {A : Type 0} (view : A → HwLiteral) (xs : List A) → literal_count (literals_of (map view xs)) ≡ length xs
literals_counted view [] = refl
literals_counted view (x ∷ xs) = ap suc (literals_counted view xs)

-- the types of results in code
types_seen : (rs : List NewResult) → map (λ (r : OpResult). r.type) (map result_of rs) ≡ map (λ (r : NewResult). type_of r.ty) rs
types_seen [] = refl
types_seen (r ∷ rs) = ap (λ (ts : List HwType). type_of r.ty ∷ ts) (types_seen rs)

pub result_types_seen : (l : ShortList NewResult) → result_types_in l ≡ map (λ (r : NewResult). type_of r.ty) (short_items l)
result_types_seen l = types_seen (short_items l)

-- the same of items that are a list's
pub types_of_items : (xs : List Ty) (l : ShortList Ty) → xs ≡ short_items l → map type_of xs ≡ types_in l
types_of_items xs l e = ap (map type_of) e

pub results_of_items : (xs : List NewResult) (l : ShortList NewResult) → xs ≡ short_items l → result_types_in l ≡ map (λ (r : NewResult). type_of r.ty) xs
results_of_items xs l e = result_types_seen l ∙ ap (map (λ (r : NewResult). type_of r.ty)) (sym e)

-- the type at a position of a list that is seen so
pub settled_index : {A : Type 0} (view : A → Option HwType) (xs : List A) (n : ℕ) (x : A) → n < length xs → x ≡ get_or xs n x
    → view x ≡ settled_at (map view xs) n
settled_index view [] n x h e = absurd (omega arith)
settled_index view (y ∷ xs) zero x h e = ap view e
settled_index view (y ∷ xs) (suc n) x h e = settled_index view xs n x (omega arith) e

pub settled_past : {A : Type 0} (view : A → Option HwType) (xs : List A) (n : ℕ) → length xs ≤ n → None ≡ settled_at (map view xs) n
settled_past view [] n h = refl
settled_past view (y ∷ xs) zero h = absurd (omega arith)
settled_past view (y ∷ xs) (suc n) h = settled_past view xs n (omega arith)

-- a pair of lists of which one is at its end: f is false there
pub ended : {A B : Type 0} (f : List A → List B → Bool) (whole : Bool) (xs : List A) (ys : List B)
    → ((ys : List B) → f [] ys ≡ false) → ((xs : List A) → f xs [] ≡ false)
    → (xs ≡ []) ⊎ (ys ≡ []) → whole ≡ f xs ys → false ≡ whole
ended f whole xs ys p q (inl e) h = sym (h ∙ ap (λ zs. f zs ys) e ∙ p ys)
ended f whole xs ys p q (inr e) h = sym (h ∙ ap (λ zs. f xs zs) e ∙ q xs)

-- where the first two of three tests do not hold, the third decides
pub last_of_three : (a b r s : Bool) → a ≡ false → b ≡ false → r ≡ s → r ≡ a || (b || s)
last_of_three false false r s p q h = h
last_of_three false true r s p q h = cc
last_of_three true b r s p q h = cc

-- against no fields no constant is wrong
pub none_differs : (ls : Literals) → literals_differ ls no_fields ≡ false
none_differs no_literals = refl
none_differs (literal l ls) = refl

pub none_miscounted : (ls : Literals) → are_miscounted ls no_fields ≡ false
none_miscounted no_literals = refl
none_miscounted (literal l ls) = refl
