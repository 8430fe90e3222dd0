-- Two equal values of a list: the earliest that stands again later.
use Rattle.std.proofs.Common.{◌≡◌, ℕ, suc, ◌+◌, ◌<◌, Bool, cond, List, [], ◌∷◌, length, map, drop, get_or, Option, Some, None, refl, sym, ap, ap₂, subst, ◌∙◌, arith, drop-cons}
use Rattle.std.specs.Prelude.{option_map, position, remove, IfSome, All}
use Rattle.std.specs.List.{AllByRecursion}
use Rattle.std.proofs.lemmas.List.Elements.{recursion_from_All}
use Rattle.std.proofs.Math.Seq.{drop-length}
use Rattle.hw_model.specs.Design.{Ref}
use Rattle.ir_store.specs.Positions.{same_ref}
use Rattle.fold_laws.specs.Fewer.{without_first, or_else, without_repeat, without_pair}
use Rattle.body_edits.specs.declared.operand_choices.Repeat.{Repeat}
use Rattle.body_edits.specs.OperandEdits.{later, or_repeat, first_repeat}
use Rattle.body_edits.proofs.FirstPositions.{position_cons, position_within, first_goes}

-- the second of them goes, and both
pub repeat_goes : (xs : List Ref) → option_map (λ (r : Repeat). remove xs r.second) (first_repeat same_ref xs) ≡ without_repeat xs
repeat_goes [] = refl
repeat_goes (x ∷ xs) = go (position (same_ref x) xs) (first_repeat same_ref xs) (without_first (same_ref x) xs) (without_repeat xs) (first_goes (same_ref x) xs) (repeat_goes xs)
  where
    go : (o : Option ℕ) (p : Option Repeat) (w v : Option (List Ref)) → option_map (λ k. remove xs k) o ≡ w → option_map (λ (r : Repeat). remove xs r.second) p ≡ v
        → option_map (λ (r : Repeat). remove (x ∷ xs) r.second) (or_repeat (option_map (λ k. record { first = 0; second = suc k }) o) (option_map later p))
        ≡ or_else (option_map (λ (ys : List Ref). x ∷ ys) w) (option_map (λ (ys : List Ref). x ∷ ys) v)
    go (Some k) p w v is rest = ap (λ u. or_else (option_map (λ (ys : List Ref). x ∷ ys) u) (option_map (λ (ys : List Ref). x ∷ ys) v)) is
    go None None w v is rest = ap₂ (λ u t. or_else (option_map (λ (ys : List Ref). x ∷ ys) u) (option_map (λ (ys : List Ref). x ∷ ys) t)) is rest
    go None (Some r) w v is rest = ap₂ (λ u t. or_else (option_map (λ (ys : List Ref). x ∷ ys) u) (option_map (λ (ys : List Ref). x ∷ ys) t)) is rest

pub pair_goes : (xs : List Ref) → option_map (λ (r : Repeat). remove (remove xs r.second) r.first) (first_repeat same_ref xs) ≡ without_pair xs
pair_goes [] = refl
pair_goes (x ∷ xs) = go (position (same_ref x) xs) (first_repeat same_ref xs) (without_first (same_ref x) xs) (without_pair xs) (first_goes (same_ref x) xs) (pair_goes xs)
  where
    go : (o : Option ℕ) (p : Option Repeat) (w v : Option (List Ref)) → option_map (λ k. remove xs k) o ≡ w → option_map (λ (r : Repeat). remove (remove xs r.second) r.first) p ≡ v
        → option_map (λ (r : Repeat). remove (remove (x ∷ xs) r.second) r.first) (or_repeat (option_map (λ k. record { first = 0; second = suc k }) o) (option_map later p))
        ≡ or_else w (option_map (λ (ys : List Ref). x ∷ ys) v)
    go (Some k) p w v is rest = ap (λ u. or_else u (option_map (λ (ys : List Ref). x ∷ ys) v)) is
    go None None w v is rest = ap₂ (λ u t. or_else u (option_map (λ (ys : List Ref). x ∷ ys) t)) is rest
    go None (Some r) w v is rest = ap₂ (λ u t. or_else u (option_map (λ (ys : List Ref). x ∷ ys) t)) is rest

module _ {A : Type 0} (same : A → A → Bool) where
  pub repeat_within : (xs : List A) → IfSome (first_repeat same xs) (λ r. (r.first < r.second) × (r.second < length xs))
  repeat_within [] = tt
  repeat_within (x ∷ xs) = go (position (same x) xs) (first_repeat same xs) (position_within (same x) xs) (repeat_within xs)
    where
      go : (o : Option ℕ) (p : Option Repeat) → IfSome o (λ k. k < length xs) → IfSome p (λ r. (r.first < r.second) × (r.second < length xs))
          → IfSome (or_repeat (option_map (λ k. record { first = 0; second = suc k }) o) (option_map later p)) (λ r. (r.first < r.second) × (r.second < length (x ∷ xs)))
      go (Some k) p h rest = (omega arith, omega (arith, h))
      go None None h rest = tt
      go None (Some r) h rest = (omega (arith, rest.0), omega (arith, rest.1))

  -- a repeat among the values from a position on
  pub repeat_here : (xs : List A) (n k : ℕ) (d : A) → n < length xs → position (same (get_or xs n d)) (drop (suc n) xs) ≡ Some k → first_repeat same (drop n xs) ≡ Some (record { first = 0; second = suc k })
  repeat_here xs n k d within is = rw (drop-cons xs n d within, is) refl

  pub repeat_later : (xs : List A) (n : ℕ) (d : A) → n < length xs → position (same (get_or xs n d)) (drop (suc n) xs) ≡ None → first_repeat same (drop n xs) ≡ option_map later (first_repeat same (drop (suc n) xs))
  repeat_later xs n d within is = rw (drop-cons xs n d within, is) refl

-- so many positions later
abbrev pub further : ℕ → Repeat → Repeat
further n r = record { first = n + r.first; second = n + r.second }

further_later : (n : ℕ) (o : Option Repeat) → option_map (further n) (option_map later o) ≡ option_map (further (suc n)) o
further_later n None = refl
further_later n (Some r) = ap₂ (λ i j. Some (record { first = i; second = j })) (omega arith) (omega arith)

module _ {A : Type 0} (same : A → A → Bool) (xs : List A) where
  pub repeat_start : first_repeat same xs ≡ option_map (further 0) (first_repeat same (drop 0 xs))
  repeat_start = go (first_repeat same xs)
    where
      go : (o : Option Repeat) → o ≡ option_map (further 0) o
      go None = refl
      go (Some r) = ap₂ (λ i j. Some (record { first = i; second = j })) (omega arith) (omega arith)

  pub repeat_step : (n : ℕ) (d : A) → n < length xs → position (same (get_or xs n d)) (drop (n + 1) xs) ≡ None
      → first_repeat same xs ≡ option_map (further n) (first_repeat same (drop n xs)) → first_repeat same xs ≡ option_map (further (n + 1)) (first_repeat same (drop (n + 1) xs))
  repeat_step n d within none before =
      let after : n + 1 ≡ suc n = omega arith in
      let later_none : position (same (get_or xs n d)) (drop (suc n) xs) ≡ None =
      subst (λ j. position (same (get_or xs n d)) (drop j xs) ≡ None) after none in
      subst (λ j. first_repeat same xs ≡ option_map (further j) (first_repeat same (drop j xs))) (sym after)
      (before ∙ ap (option_map (further n)) (repeat_later same xs n d within later_none) ∙ further_later n (first_repeat same (drop (suc n) xs)))

  pub repeat_found : (n k : ℕ) (d : A) → n < length xs → position (same (get_or xs n d)) (drop (n + 1) xs) ≡ Some k
      → first_repeat same xs ≡ option_map (further n) (first_repeat same (drop n xs)) → first_repeat same xs ≡ Some (record { first = n; second = n + 1 + k })
  repeat_found n k d within is before =
      let after : n + 1 ≡ suc n = omega arith in
      let there : position (same (get_or xs n d)) (drop (suc n) xs) ≡ Some k =
      subst (λ j. position (same (get_or xs n d)) (drop j xs) ≡ Some k) after is in
      before
      ∙ ap (option_map (further n)) (repeat_here same xs n k d within there)
      ∙ ap₂ (λ i j. Some (record { first = i; second = j })) (omega arith) (omega arith)

  pub repeat_none : first_repeat same xs ≡ option_map (further (length xs)) (first_repeat same (drop (length xs) xs)) → first_repeat same xs ≡ None
  repeat_none before = before ∙ ap (λ ys. option_map (further (length xs)) (first_repeat same ys)) (drop-length xs)

-- ---- values that are equal just where others are

module _ {A B : Type 0} (f : A → B) (same : A → A → Bool) (same' : B → B → Bool) where
  position_same : (P : A → Type 0) → ((x y : A) → P x → P y → same x y ≡ same' (f x) (f y)) → (x : A) → P x → (xs : List A) → AllByRecursion P xs
      → position (same x) xs ≡ position (same' (f x)) (map f xs)
  position_same P agree x here [] all = refl
  position_same P agree x here (y ∷ ys) all =
      position_cons (same x) y ys
      ∙ ap₂ (λ b o. cond b (Some 0) (option_map suc o)) (agree x y here all.0) (position_same P agree x here ys all.1)
      ∙ sym (position_cons (same' (f x)) (f y) (map f ys))

  repeat_same : (P : A → Type 0) → ((x y : A) → P x → P y → same x y ≡ same' (f x) (f y)) → (xs : List A) → AllByRecursion P xs → first_repeat same xs ≡ first_repeat same' (map f xs)
  repeat_same P agree [] all = refl
  repeat_same P agree (x ∷ xs) all =
      ap₂ (λ o p. or_repeat (option_map (λ k. record { first = 0; second = suc k }) o) (option_map later p))
      (position_same P agree x all.0 xs all.1) (repeat_same P agree xs all.1)

  pub repeat-map : (P : A → Type 0) → ((x y : A) → P x → P y → same x y ≡ same' (f x) (f y)) → (xs : List A) → All P xs → first_repeat same xs ≡ first_repeat same' (map f xs)
  repeat-map P agree xs all = repeat_same P agree xs (recursion_from_All P xs all)
