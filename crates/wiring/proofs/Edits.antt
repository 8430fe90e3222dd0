-- What `insert` and `remove` of the standard library leave: by positions, in parts, under `map`, and which members.
-- An insertion past the end appends, and a removal past the end changes nothing.
use Rattle.std.proofs.Common.{◌≡◌, ℕ, zero, suc, ◌<◌, ◌≤◌, ◌⊎◌, List, [], ◌∷◌, length, map, take, drop, set, insert, remove, slice_get, Some, refl, ap, ◌∙◌, inl, inr, arith}
use Rattle.wiring.specs.Wiring.{In}

module _ {A : Type 0} where
  pub slice_get-insert_below : (xs : List A) (i : ℕ) (x : A) (k : ℕ) → k < i → i ≤ length xs → slice_get (insert xs i x) k ≡ slice_get xs k
  slice_get-insert_below xs zero x k below within = absurd (omega arith)
  slice_get-insert_below [] (suc i) x k below within = absurd (omega arith)
  slice_get-insert_below (y ∷ ys) (suc i) x zero below within = refl
  slice_get-insert_below (y ∷ ys) (suc i) x (suc k) below within = slice_get-insert_below ys i x k (omega arith) (omega arith)

  pub slice_get-insert_at : (xs : List A) (i : ℕ) (x : A) → i ≤ length xs → slice_get (insert xs i x) i ≡ Some x
  slice_get-insert_at xs zero x within = refl
  slice_get-insert_at [] (suc i) x within = absurd (omega arith)
  slice_get-insert_at (y ∷ ys) (suc i) x within = slice_get-insert_at ys i x (omega arith)

  pub slice_get-insert_above : (xs : List A) (i : ℕ) (x : A) (k : ℕ) → i ≤ k → slice_get (insert xs i x) (suc k) ≡ slice_get xs k
  slice_get-insert_above xs zero x k above = refl
  slice_get-insert_above [] (suc i) x k above = refl
  slice_get-insert_above (y ∷ ys) (suc i) x zero above = absurd (omega arith)
  slice_get-insert_above (y ∷ ys) (suc i) x (suc k) above = slice_get-insert_above ys i x k (omega arith)

  pub slice_get-remove_below : (xs : List A) (i k : ℕ) → k < i → slice_get (remove xs i) k ≡ slice_get xs k
  slice_get-remove_below xs zero k below = absurd (omega arith)
  slice_get-remove_below [] (suc i) k below = refl
  slice_get-remove_below (y ∷ ys) (suc i) zero below = refl
  slice_get-remove_below (y ∷ ys) (suc i) (suc k) below = slice_get-remove_below ys i k (omega arith)

  pub slice_get-remove_above : (xs : List A) (i k : ℕ) → i ≤ k → slice_get (remove xs i) k ≡ slice_get xs (suc k)
  slice_get-remove_above [] zero k above = refl
  slice_get-remove_above (y ∷ ys) zero k above = refl
  slice_get-remove_above [] (suc i) k above = refl
  slice_get-remove_above (y ∷ ys) (suc i) zero above = absurd (omega arith)
  slice_get-remove_above (y ∷ ys) (suc i) (suc k) above = slice_get-remove_above ys i k (omega arith)

  -- past the end too
  pub length-insert_suc : (xs : List A) (i : ℕ) (x : A) → length (insert xs i x) ≡ suc (length xs)
  length-insert_suc xs zero x = refl
  length-insert_suc [] (suc i) x = refl
  length-insert_suc (y ∷ ys) (suc i) x = ap suc (length-insert_suc ys i x)

  pub length-remove_suc : (xs : List A) (i : ℕ) → i < length xs → suc (length (remove xs i)) ≡ length xs
  length-remove_suc [] i within = absurd (omega arith)
  length-remove_suc (y ∷ ys) zero within = refl
  length-remove_suc (y ∷ ys) (suc i) within = ap suc (length-remove_suc ys i (omega arith))

  pub remove_past : (xs : List A) (i : ℕ) → length xs ≤ i → remove xs i ≡ xs
  remove_past [] zero past = refl
  remove_past [] (suc i) past = refl
  remove_past (y ∷ ys) zero past = absurd (omega arith)
  remove_past (y ∷ ys) (suc i) past = ap (λ zs. y ∷ zs) (remove_past ys i (omega arith))

  -- an insertion and a removal at one position undo each other
  pub remove-insert : (xs : List A) (i : ℕ) (x : A) → i ≤ length xs → remove (insert xs i x) i ≡ xs
  remove-insert xs zero x within = refl
  remove-insert [] (suc i) x within = absurd (omega arith)
  remove-insert (y ∷ ys) (suc i) x within = ap (λ zs. y ∷ zs) (remove-insert ys i x (omega arith))

  pub insert-remove : (xs : List A) (i : ℕ) (x : A) → slice_get xs i ≡ Some x → insert (remove xs i) i x ≡ xs
  insert-remove [] i x is = cc
  insert-remove (y ∷ ys) zero x is = let same : x ≡ y = cc in ap (λ z. z ∷ ys) same
  insert-remove (y ∷ ys) (suc i) x is = ap (λ zs. y ∷ zs) (insert-remove ys i x is)

  -- a write is a removal and an insertion
  pub insert-remove_set : (xs : List A) (i : ℕ) (x : A) → i < length xs → insert (remove xs i) i x ≡ set xs i x
  insert-remove_set [] i x within = absurd (omega arith)
  insert-remove_set (y ∷ ys) zero x within = refl
  insert-remove_set (y ∷ ys) (suc i) x within = ap (λ zs. y ∷ zs) (insert-remove_set ys i x (omega arith))

  pub take-insert_below : (j : ℕ) (xs : List A) (i : ℕ) (x : A) → j ≤ i → i ≤ length xs → take j (insert xs i x) ≡ take j xs
  take-insert_below zero xs i x below within = refl
  take-insert_below (suc j) xs zero x below within = absurd (omega arith)
  take-insert_below (suc j) [] (suc i) x below within = absurd (omega arith)
  take-insert_below (suc j) (y ∷ ys) (suc i) x below within = ap (λ zs. y ∷ zs) (take-insert_below j ys i x (omega arith) (omega arith))

  pub take-insert_above : (j : ℕ) (xs : List A) (i : ℕ) (x : A) → i ≤ j → take (suc j) (insert xs i x) ≡ insert (take j xs) i x
  take-insert_above j xs zero x above = refl
  take-insert_above zero xs (suc i) x above = absurd (omega arith)
  take-insert_above (suc j) [] (suc i) x above = refl
  take-insert_above (suc j) (y ∷ ys) (suc i) x above = ap (λ zs. y ∷ zs) (take-insert_above j ys i x (omega arith))

  pub drop-insert_above : (j : ℕ) (xs : List A) (i : ℕ) (x : A) → i ≤ j → drop (suc j) (insert xs i x) ≡ drop j xs
  drop-insert_above j xs zero x above = refl
  drop-insert_above zero xs (suc i) x above = absurd (omega arith)
  drop-insert_above (suc j) [] (suc i) x above = refl
  drop-insert_above (suc j) (y ∷ ys) (suc i) x above = drop-insert_above j ys i x (omega arith)

  pub take-remove_below : (j : ℕ) (xs : List A) (i : ℕ) → j ≤ i → take j (remove xs i) ≡ take j xs
  take-remove_below zero xs i below = refl
  take-remove_below (suc j) xs zero below = absurd (omega arith)
  take-remove_below (suc j) [] (suc i) below = refl
  take-remove_below (suc j) (y ∷ ys) (suc i) below = ap (λ zs. y ∷ zs) (take-remove_below j ys i (omega arith))

  pub take-remove_above : (j : ℕ) (xs : List A) (i : ℕ) → i ≤ j → take j (remove xs i) ≡ remove (take (suc j) xs) i
  take-remove_above zero [] zero above = refl
  take-remove_above (suc j) [] zero above = refl
  take-remove_above j (y ∷ ys) zero above = refl
  take-remove_above zero xs (suc i) above = absurd (omega arith)
  take-remove_above (suc j) [] (suc i) above = refl
  take-remove_above (suc j) (y ∷ ys) (suc i) above = ap (λ zs. y ∷ zs) (take-remove_above j ys i (omega arith))

  pub drop-remove_above : (j : ℕ) (xs : List A) (i : ℕ) → i ≤ j → drop j (remove xs i) ≡ drop (suc j) xs
  drop-remove_above zero [] zero above = refl
  drop-remove_above (suc j) [] zero above = refl
  drop-remove_above j (y ∷ ys) zero above = refl
  drop-remove_above zero xs (suc i) above = absurd (omega arith)
  drop-remove_above (suc j) [] (suc i) above = refl
  drop-remove_above (suc j) (y ∷ ys) (suc i) above = drop-remove_above j ys i (omega arith)

  pub In-insert_same : (xs : List A) (i : ℕ) (x : A) → In x (insert xs i x)
  In-insert_same xs zero x = inl refl
  In-insert_same [] (suc i) x = inl refl
  In-insert_same (y ∷ ys) (suc i) x = inr (In-insert_same ys i x)

  pub In-insert_other : (xs : List A) (i : ℕ) (x y : A) → In y xs → In y (insert xs i x)
  In-insert_other xs zero x y here = inr here
  In-insert_other [] (suc i) x y here = absurd here
  In-insert_other (z ∷ zs) (suc i) x y (inl same) = inl same
  In-insert_other (z ∷ zs) (suc i) x y (inr here) = inr (In-insert_other zs i x y here)

  -- the inserted element, or a member of the list before
  pub In-insert_cases : (xs : List A) (i : ℕ) (x y : A) → In y (insert xs i x) → (y ≡ x) ⊎ In y xs
  In-insert_cases xs zero x y (inl same) = inl same
  In-insert_cases xs zero x y (inr here) = inr here
  In-insert_cases [] (suc i) x y (inl same) = inl same
  In-insert_cases [] (suc i) x y (inr here) = absurd here
  In-insert_cases (z ∷ zs) (suc i) x y (inl same) = inr (inl same)
  In-insert_cases (z ∷ zs) (suc i) x y (inr here) = following (In-insert_cases zs i x y here)
    where
      following : (y ≡ x) ⊎ In y zs → (y ≡ x) ⊎ In y (z ∷ zs)
      following (inl same) = inl same
      following (inr before) = inr (inr before)

  pub from_In-remove : (xs : List A) (i : ℕ) (y : A) → In y (remove xs i) → In y xs
  from_In-remove [] zero y here = absurd here
  from_In-remove [] (suc i) y here = absurd here
  from_In-remove (z ∷ zs) zero y here = inr here
  from_In-remove (z ∷ zs) (suc i) y (inl same) = inl same
  from_In-remove (z ∷ zs) (suc i) y (inr here) = inr (from_In-remove zs i y here)

  -- a member is the element that was removed, or stays
  pub In-remove_cases : (xs : List A) (i : ℕ) (x y : A) → slice_get xs i ≡ Some x → In y xs → (y ≡ x) ⊎ In y (remove xs i)
  In-remove_cases [] i x y is here = absurd here
  In-remove_cases (z ∷ zs) zero x y is (inl same) = let removed : z ≡ x = cc in inl (same ∙ removed)
  In-remove_cases (z ∷ zs) zero x y is (inr here) = inr here
  In-remove_cases (z ∷ zs) (suc i) x y is (inl same) = inr (inl same)
  In-remove_cases (z ∷ zs) (suc i) x y is (inr here) = following (In-remove_cases zs i x y is here)
    where
      following : (y ≡ x) ⊎ In y (remove zs i) → (y ≡ x) ⊎ In y (z ∷ remove zs i)
      following (inl same) = inl same
      following (inr stays) = inr (inr stays)

module _ {A B : Type 0} where
  pub map-insert : (f : A → B) (xs : List A) (i : ℕ) (x : A) → map f (insert xs i x) ≡ insert (map f xs) i (f x)
  map-insert f xs zero x = refl
  map-insert f [] (suc i) x = refl
  map-insert f (y ∷ ys) (suc i) x = ap (λ zs. f y ∷ zs) (map-insert f ys i x)

  pub map-remove : (f : A → B) (xs : List A) (i : ℕ) → map f (remove xs i) ≡ remove (map f xs) i
  map-remove f [] zero = refl
  map-remove f [] (suc i) = refl
  map-remove f (y ∷ ys) zero = refl
  map-remove f (y ∷ ys) (suc i) = ap (λ zs. f y ∷ zs) (map-remove f ys i)
