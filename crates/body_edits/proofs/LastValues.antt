-- A value of a list moved after the others.
use Rattle.std.proofs.Common.{◌≡◌, ℕ, zero, suc, ◌<◌, Bool, true, false, cond, not, ◌&&◌, ◌||◌, List, [], ◌∷◌, ◌++◌, length, map, take, drop, get_or, Option, Some, None, refl, sym, ap, ◌∙◌, arith, option_and_then}
use Rattle.std.specs.Prelude.{option_map, position, remove, insert}
use Rattle.std.specs.List.{list_any}
use Rattle.std.proofs.lemmas.List.Edits.{remove-append_left}
use Rattle.hw_model.specs.Design.{Ref}
use Rattle.fold_laws.specs.ConstantOperands.{has_other, with_first_last}
use Rattle.body_edits.proofs.FirstPositions.{position_cons}

module _ (test : Ref → Bool) where
  -- nothing moves where all meet it
  none_other : (xs : List Ref) → has_other test xs ≡ false → with_first_last test xs ≡ None
  none_other [] is = refl
  none_other (x ∷ xs) is = go (test x) (has_other test xs) is (none_other xs)
    where
      go : (b h : Bool) → (not b || h) ≡ false → (h ≡ false → with_first_last test xs ≡ None)
          → cond (b && h) (Some (xs ++ x ∷ [])) (option_map (λ (ys : List Ref). x ∷ ys) (with_first_last test xs)) ≡ None
      go true true is rest = cc
      go true false is rest = ap (option_map (λ (ys : List Ref). x ∷ ys)) (rest refl)
      go false h is rest = cc

  pub first_moves : (xs : List Ref) → option_and_then (λ k. cond (has_other test (drop (suc k) xs)) (Some (remove xs k ++ take 1 (drop k xs))) None) (position test xs) ≡ with_first_last test xs
  first_moves [] = refl
  first_moves (x ∷ xs) =
      ap (λ o. option_and_then (λ k. cond (has_other test (drop (suc k) (x ∷ xs))) (Some (remove (x ∷ xs) k ++ take 1 (drop k (x ∷ xs)))) None) o) (position_cons test x xs)
      ∙ go (test x) (position test xs) (first_moves xs)
    where
      all : (h : Bool) → has_other test xs ≡ h → cond h (Some (xs ++ x ∷ [])) None ≡ cond h (Some (xs ++ x ∷ [])) (option_map (λ (ys : List Ref). x ∷ ys) (with_first_last test xs))
      all true is = refl
      all false is = sym (ap (option_map (λ (ys : List Ref). x ∷ ys)) (none_other xs is))

      more : (h : Bool) (w : Option (List Ref)) (ys : List Ref) → cond h (Some ys) None ≡ w → cond h (Some (x ∷ ys)) None ≡ option_map (λ (ys : List Ref). x ∷ ys) w
      more true w ys is = ap (option_map (λ (ys : List Ref). x ∷ ys)) is
      more false w ys is = ap (option_map (λ (ys : List Ref). x ∷ ys)) is

      go : (b : Bool) (o : Option ℕ) → option_and_then (λ k. cond (has_other test (drop (suc k) xs)) (Some (remove xs k ++ take 1 (drop k xs))) None) o ≡ with_first_last test xs
          → option_and_then (λ k. cond (has_other test (drop (suc k) (x ∷ xs))) (Some (remove (x ∷ xs) k ++ take 1 (drop k (x ∷ xs)))) None) (cond b (Some 0) (option_map suc o))
          ≡ cond (b && has_other test xs) (Some (xs ++ x ∷ [])) (option_map (λ (ys : List Ref). x ∷ ys) (with_first_last test xs))
      go true o is = all (has_other test xs) refl
      go false None is = ap (option_map (λ (ys : List Ref). x ∷ ys)) is
      go false (Some k) is = more (has_other test (drop (suc k) xs)) (with_first_last test xs) (remove xs k ++ take 1 (drop k xs)) is

  -- a test of all values by one of some
  pub other_any : (xs : List Ref) → list_any (λ x. not (test x)) xs ≡ has_other test xs
  other_any [] = refl
  other_any (x ∷ xs) = ap (λ h. not (test x) || h) (other_any xs)

pub any_map : {A B : Type 0} (p : B → Bool) (f : A → B) (xs : List A) → list_any (λ x. p (f x)) xs ≡ list_any p (map f xs)
any_map p f [] = refl
any_map p f (x ∷ xs) = ap (λ h. p (f x) || h) (any_map p f xs)

-- ---- a value put in at the end, and taken out where it was

insert_end : {A : Type 0} (xs : List A) (y : A) → insert xs (length xs) y ≡ xs ++ y ∷ []
insert_end [] y = refl
insert_end (x ∷ xs) y = ap (λ ys. x ∷ ys) (insert_end xs y)

one_there : {A : Type 0} (xs : List A) (k : ℕ) (d : A) → k < length xs → take 1 (drop k xs) ≡ get_or xs k d ∷ []
one_there [] k d within = absurd (omega (arith, within))
one_there (x ∷ xs) zero d within = refl
one_there (x ∷ xs) (suc k) d within = one_there xs k d (omega (arith, within))

pub end_moved : {A : Type 0} (xs : List A) (n k : ℕ) (d : A) → n ≡ length xs → k < length xs → remove (insert xs n (get_or xs k d)) k ≡ remove xs k ++ take 1 (drop k xs)
end_moved xs n k d end within =
    ap (λ m. remove (insert xs m (get_or xs k d)) k) end
    ∙ ap (λ ys. remove ys k) (insert_end xs (get_or xs k d))
    ∙ remove-append_left xs (get_or xs k d ∷ []) k within
    ∙ ap (λ ys. remove xs k ++ ys) (sym (one_there xs k d within))
