-- Members of lists: of joined lists, of maps, of parts, and by positions.
use Rattle.std.proofs.Common.{◌≡◌, ℕ, zero, suc, ◌⊎◌, List, [], ◌∷◌, ◌++◌, map, take, drop, set, flat_map, get_or, slice_get, Some, All, Contains, refl, sym, ap, ap₂, subst, ◌∙◌, inl, inr}
use Rattle.std.proofs.lemmas.Option.{slice_get_within, get_or_from_slice_get, slice_get-get_or}
use Rattle.wiring.specs.Wiring.{In}

module _ {A : Type 0} where
  pub In-append_left : (x : A) (xs ys : List A) → In x xs → In x (xs ++ ys)
  In-append_left x [] ys here = absurd here
  In-append_left x (z ∷ zs) ys (inl same) = inl same
  In-append_left x (z ∷ zs) ys (inr here) = inr (In-append_left x zs ys here)

  pub In-append_right : (x : A) (xs ys : List A) → In x ys → In x (xs ++ ys)
  In-append_right x [] ys here = here
  In-append_right x (z ∷ zs) ys here = inr (In-append_right x zs ys here)

  -- a member of two joined lists is a member of one
  pub In-append_cases : (x : A) (xs ys : List A) → In x (xs ++ ys) → In x xs ⊎ In x ys
  In-append_cases x [] ys here = inr here
  In-append_cases x (z ∷ zs) ys (inl same) = inl (inl same)
  In-append_cases x (z ∷ zs) ys (inr here) = following (In-append_cases x zs ys here)
    where
      following : In x zs ⊎ In x ys → In x (z ∷ zs) ⊎ In x ys
      following (inl prefix) = inl (inr prefix)
      following (inr back) = inr back

  pub from_In-take : (x : A) (n : ℕ) (xs : List A) → In x (take n xs) → In x xs
  from_In-take x zero xs here = absurd here
  from_In-take x (suc n) [] here = absurd here
  from_In-take x (suc n) (y ∷ ys) (inl same) = inl same
  from_In-take x (suc n) (y ∷ ys) (inr here) = inr (from_In-take x n ys here)

  pub from_In-drop : (x : A) (n : ℕ) (xs : List A) → In x (drop n xs) → In x xs
  from_In-drop x zero xs here = here
  from_In-drop x (suc n) [] here = absurd here
  from_In-drop x (suc n) (y ∷ ys) here = inr (from_In-drop x n ys here)

  -- a member of a list is one of its prefix or of the rest
  pub In-take_drop_cases : (x : A) (n : ℕ) (xs : List A) → In x xs → In x (take n xs) ⊎ In x (drop n xs)
  In-take_drop_cases x zero xs here = inr here
  In-take_drop_cases x (suc n) [] here = absurd here
  In-take_drop_cases x (suc n) (y ∷ ys) (inl same) = inl (inl same)
  In-take_drop_cases x (suc n) (y ∷ ys) (inr here) = following (In-take_drop_cases x n ys here)
    where
      following : In x (take n ys) ⊎ In x (drop n ys) → In x (y ∷ take n ys) ⊎ In x (drop n ys)
      following (inl prefix) = inl (inr prefix)
      following (inr back) = inr back

  -- what was written, or a member of the list before
  pub In-set_cases : (x : A) (xs : List A) (i : ℕ) (y : A) → In x (set xs i y) → (x ≡ y) ⊎ In x xs
  In-set_cases x [] i y here = absurd here
  In-set_cases x (z ∷ zs) zero y (inl same) = inl same
  In-set_cases x (z ∷ zs) zero y (inr here) = inr (inr here)
  In-set_cases x (z ∷ zs) (suc i) y (inl same) = inr (inl same)
  In-set_cases x (z ∷ zs) (suc i) y (inr here) = following (In-set_cases x zs i y here)
    where
      following : (x ≡ y) ⊎ In x zs → (x ≡ y) ⊎ In x (z ∷ zs)
      following (inl same) = inl same
      following (inr before) = inr (inr before)

  -- what stands at a position is a member
  pub In-slice_get : (x : A) (xs : List A) (i : ℕ) → slice_get xs i ≡ Some x → In x xs
  In-slice_get x [] i is = cc
  In-slice_get x (y ∷ ys) zero is = inl cc
  In-slice_get x (y ∷ ys) (suc i) is = inr (In-slice_get x ys i is)

  -- a member stands at a position
  pub position_of_In : (x : A) (xs : List A) → In x xs → (i : ℕ) × (slice_get xs i ≡ Some x)
  position_of_In x [] here = absurd here
  position_of_In x (y ∷ ys) (inl same) = (0, ap Some (sym same))
  position_of_In x (y ∷ ys) (inr here) = let found = position_of_In x ys here in (suc found.0, found.1)

  pub Contains-from_In : (x : A) (xs : List A) → In x xs → Contains xs x
  Contains-from_In x xs here =
      let found = position_of_In x xs here in
      (found.0, slice_get_within xs found.0 x found.1, get_or_from_slice_get xs found.0 x x found.1)

  pub In-from_Contains : (x : A) (xs : List A) → Contains xs x → In x xs
  In-from_Contains x xs (k, within, is) =
      In-slice_get x xs k (slice_get-get_or xs k x within ∙ ap Some is)

  -- what holds of each member holds of all, in the words of `All`, and back
  pub All-from_members : (P : A → Type 0) (xs : List A) → ((x : A) → In x xs → P x) → All P xs
  All-from_members P xs holds k d within =
      holds (get_or xs k d) (In-slice_get (get_or xs k d) xs k (slice_get-get_or xs k d within))

  pub All-member : (P : A → Type 0) (xs : List A) → All P xs → (x : A) → In x xs → P x
  All-member P xs all x here =
      let found : Contains xs x = Contains-from_In x xs here in
      subst P found.2 (all found.0 x found.1)

module _ {A B : Type 0} where
  pub In-map : (f : A → B) (x : A) (xs : List A) → In x xs → In (f x) (map f xs)
  In-map f x [] here = absurd here
  In-map f x (y ∷ ys) (inl same) = inl (ap f same)
  In-map f x (y ∷ ys) (inr here) = inr (In-map f x ys here)

  -- a member of a map comes from a member
  pub from_In-map : (f : A → B) (y : B) (xs : List A) → In y (map f xs) → (x : A) × In x xs × (y ≡ f x)
  from_In-map f y [] here = absurd here
  from_In-map f y (x ∷ xs) (inl same) = (x, inl refl, same)
  from_In-map f y (x ∷ xs) (inr here) = let found = from_In-map f y xs here in (found.0, inr found.1, found.2)

  pub In-flat_map : (f : A → List B) (x : A) (xs : List A) (y : B) → In x xs → In y (f x) → In y (flat_map f xs)
  In-flat_map f x [] y here there = absurd here
  In-flat_map f x (z ∷ zs) y (inl same) there =
      In-append_left y (f z) (flat_map f zs) (subst (λ w. In y (f w)) same there)
  In-flat_map f x (z ∷ zs) y (inr here) there =
      In-append_right y (f z) (flat_map f zs) (In-flat_map f x zs y here there)

  -- a member of a joined map comes from what a member gives
  pub from_In-flat_map : (f : A → List B) (y : B) (xs : List A) → In y (flat_map f xs) → (x : A) × In x xs × In y (f x)
  from_In-flat_map f y [] here = absurd here
  from_In-flat_map f y (x ∷ xs) here = by_part (In-append_cases y (f x) (flat_map f xs) here) (from_In-flat_map f y xs)
    where
      by_part : In y (f x) ⊎ In y (flat_map f xs) → (In y (flat_map f xs) → (z : A) × In z xs × In y (f z)) → (z : A) × In z (x ∷ xs) × In y (f z)
      by_part (inl first) rest = (x, inl refl, first)
      by_part (inr later) rest = let found = rest later in (found.0, inr found.1, found.2)

  -- two functions that agree on the members of a list
  pub map_same : (f g : A → B) (xs : List A) → ((x : A) → In x xs → f x ≡ g x) → map f xs ≡ map g xs
  map_same f g [] agree = refl
  map_same f g (x ∷ xs) agree =
      ap₂ (λ y ys. y ∷ ys) (agree x (inl refl)) (map_same f g xs (λ z here. agree z (inr here)))
