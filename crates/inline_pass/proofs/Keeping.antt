-- Modules that are kept by their marks, one after another.
use Rattle.std.proofs.Common.{◌≡◌, ℕ, ◌+◌, ◌<◌, ◌^◌, Bool, true, false, List, [], ◌∷◌, ◌++◌, length, map, refl, sym, ap, ◌∙◌, inl, inr}
use Rattle.std.specs.Prelude.{◌⊎◌}
use Rattle.std.proofs.lemmas.List.{append-nil, nil_from_length}
use Rattle.ir_store.specs.Designs.{StoredModule, numbered_module}
use Rattle.inline_pass.specs.Marks.{marked}

-- what is kept so far, and of the marks and modules that are left those that will be
pub record IsKeeping (marks : List Bool) (old new : List StoredModule) (left_marks : List Bool) (left : List StoredModule) : Type 0 where
  pub same : new ++ marked left_marks left ≡ marked marks old
  pub fits : length new + length left < 2 ^ 32

-- nothing is left
pub all_kept : (marks : List Bool) (old new : List StoredModule) (left_marks : List Bool) (left : List StoredModule) → IsKeeping marks old new left_marks left
    → (left_marks ≡ []) ⊎ (left ≡ []) → map numbered_module new ≡ marked marks (map numbered_module old)
all_kept marks old new left_marks left keeping ended =
    ap (map numbered_module) (sym (append-nil new) ∙ sym (ap (λ xs. new ++ xs) (none left_marks left ended)) ∙ keeping.same) ∙ map-marked marks old
  where
    none : (bs : List Bool) (xs : List StoredModule) → (bs ≡ []) ⊎ (xs ≡ []) → marked bs xs ≡ []
    none bs xs (inl is) = ap (λ ys. marked ys xs) is
    none [] xs (inr is) = refl
    none (b ∷ bs) xs (inr is) = ap (marked (b ∷ bs)) is

    map-marked : (bs : List Bool) (xs : List StoredModule) → map numbered_module (marked bs xs) ≡ marked bs (map numbered_module xs)
    map-marked [] xs = refl
    map-marked (b ∷ bs) [] = refl
    map-marked (true ∷ bs) (x ∷ xs) = ap (λ ys. numbered_module x ∷ ys) (map-marked bs xs)
    map-marked (false ∷ bs) (x ∷ xs) = map-marked bs xs

-- marks or modules have come to their end
pub none_left : {S T A B C : Type 0} {P : S → Type 0} {Q : T → Type 0} (view : B → C) (xs : List A) (ys : List B) (size : ℕ) → size ≡ length ys
    → ((u : S) × ((length xs ≡ 0) × P u)) ⊎ ((v : T) × ((size ≡ 0) × Q v)) → (xs ≡ []) ⊎ (map view ys ≡ [])
none_left view xs ys size is (inl marks) = inl (nil_from_length xs marks.1.0)
none_left view xs ys size is (inr modules) = inr (ap (map view) (nil_from_length ys (sym is ∙ modules.1.0)))
