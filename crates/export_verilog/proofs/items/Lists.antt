-- Lists that are made element by element, and what is first found in a list.
use Rattle.std.proofs.Common.{◌≡◌, ℕ, zero, suc, ◌+◌, ◌⊎◌, List, [], ◌∷◌, ◌++◌, slice_get, Option, Some, None, refl, sym, ◌∙◌, ap, inl, inr, add-zero, add-suc, suc-add}
use Rattle.wiring.specs.Wiring.{In}
use Rattle.wiring.proofs.Members.{In-append_left, In-append_right}
use Rattle.verilog_model.specs.Hierarchy.{first_some, or_else}
use Rattle.export_verilog.specs.Identifiers.{each}

module _ {A : Type 0} where
  pub in_append : (x : A) (xs ys : List A) → In x (xs ++ ys) → In x xs ⊎ In x ys
  in_append x [] ys here = inr here
  in_append x (y ∷ xs) ys (inl same) = inl (inl same)
  in_append x (y ∷ xs) ys (inr here) = after (in_append x xs ys here) where
    after : In x xs ⊎ In x ys → In x (y ∷ xs) ⊎ In x ys
    after (inl h) = inl (inr h)
    after (inr h) = inr h

module _ {A B : Type 0} (f : ℕ → A → List B) where
  -- a member comes from an element at a position
  pub record FromEach (i : ℕ) (xs : List A) (y : B) : Type 0 where
    pub position : ℕ
    pub element : A
    pub there : slice_get xs position ≡ Some element
    pub within : In y (f (i + position) element)

  pub in_each : (i : ℕ) (xs : List A) (y : B) → In y (each f i xs) → FromEach i xs y
  in_each i [] y here = absurd here
  in_each i (x ∷ xs) y here = go (in_append y (f i x) (each f (suc i) xs) here) (in_each (suc i) xs y) where
    later : FromEach (suc i) xs y → FromEach i (x ∷ xs) y
    later e = record {
      position = suc e.position;
      element = e.element;
      there = e.there;
      within = rw (sym (suc-add i e.position ∙ sym (add-suc i e.position))) e.within;
    }

    go : In y (f i x) ⊎ In y (each f (suc i) xs) → (In y (each f (suc i) xs) → FromEach (suc i) xs y) → FromEach i (x ∷ xs) y
    go (inl h) rest = record { position = 0; element = x; there = refl; within = rw (add-zero i) h }
    go (inr h) rest = later (rest h)

  pub each_in : (i : ℕ) (xs : List A) (y : B) (position : ℕ) (x : A) → slice_get xs position ≡ Some x → In y (f (i + position) x) → In y (each f i xs)
  each_in i [] y position x there within = cc
  each_in i (z ∷ xs) y zero x there within = let same : z ≡ x = cc in In-append_left y (f i z) (each f (suc i) xs) (rw (same, sym (add-zero i)) within)
  each_in i (z ∷ xs) y (suc position) x there within =
      In-append_right y (f i z) (each f (suc i) xs) (each_in (suc i) xs y position x there (rw (suc-add i position ∙ sym (add-suc i position)) within))

-- ---- what is first found

module _ {A B : Type 0} (f : A → Option B) where
  -- something is found where an element gives it, and what any element gives is that
  pub first_found : (b : B) (xs : List A) (x : A) → In x xs → f x ≡ Some b → ((y : A) (c : B) → In y xs → f y ≡ Some c → c ≡ b) → first_some f xs ≡ Some b
  first_found b [] x here gives all = absurd here
  first_found b (z ∷ xs) x here gives all = go (f z) refl here (λ h. first_found b xs x h gives (λ y c w g. all y c (inr w) g)) where
    go : (o : Option B) → f z ≡ o → (x ≡ z) ⊎ In x xs → (In x xs → first_some f xs ≡ Some b) → or_else o (first_some f xs) ≡ Some b
    go (Some c) e h rest = ap (λ v. Some v) (all z c (inl refl) e)
    go None e (inl same) rest = let other : f z ≡ Some b = ap f (sym same) ∙ gives in cc
    go None e (inr h) rest = rest h

  pub none_found : (xs : List A) → ((y : A) → In y xs → f y ≡ None) → first_some f xs ≡ None
  none_found [] none = refl
  none_found (z ∷ xs) none = ap (λ o. or_else o (first_some f xs)) (none z (inl refl)) ∙ none_found xs (λ y h. none y (inr h))
