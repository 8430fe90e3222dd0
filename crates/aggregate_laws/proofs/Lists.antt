-- Values in a row, and joined lists by positions.
use Rattle.std.proofs.Common.{◌≡◌, ◌⊎◌, ℕ, zero, suc, ◌+◌, ◌-◌, ◌<◌, ◌≤◌, Bool, true, false, cond, List, [], ◌∷◌, ◌++◌, length, map, take, drop, flat_map, filter, slice_get, Some, refl, sym, ap, ap₂}
use Rattle.std.proofs.Common.{◌∙◌, inl, inr, arith, add-zero, zero-add, length-append}
use Rattle.std.proofs.lemmas.List.{map-append, take-append-le}
use Rattle.std.proofs.lemmas.Grind.{flat_map-append}
use Rattle.wiring.specs.Wiring.{In}
use Rattle.wiring.proofs.Lists.{split_at, slice_get-append_left, slice_get-append_right, take-append_right}
use Rattle.wiring.proofs.Members.{In-slice_get}
use Rattle.aggregate_laws.specs.Leaves.{in_row}

-- ---- values in a row

module _ {A : Type 0} (f : ℕ → A) where
  pub length-in_row : (s n : ℕ) → length (in_row f s n) ≡ n
  length-in_row s zero = refl
  length-in_row s (suc n) = ap suc (length-in_row (suc s) n)

  pub in_rule_at : (s n i : ℕ) → i < n → slice_get (in_row f s n) i ≡ Some (f (s + i))
  in_rule_at s zero i below = absurd (omega arith)
  in_rule_at s (suc n) zero below = ap (λ k. Some (f k)) (sym (add-zero s))
  in_rule_at s (suc n) (suc i) below = in_rule_at (suc s) n i (omega arith) ∙ ap (λ k. Some (f k)) (let e : suc s + i ≡ s + suc i = omega arith in e)

  -- a member has a number
  pub from_In-in_row : (s n : ℕ) (x : A) → In x (in_row f s n) → (i : ℕ) × (i < n) × (x ≡ f (s + i))
  from_In-in_row s zero x here = absurd here
  from_In-in_row s (suc n) x (inl same) = (0, omega arith, same ∙ ap f (sym (add-zero s)))
  from_In-in_row s (suc n) x (inr here) =
      let found = from_In-in_row (suc s) n x here in
      let below : found.0 < n = found.1 in
      (suc found.0, omega arith, found.2 ∙ ap f (let e : suc s + found.0 ≡ s + suc found.0 = omega arith in e))

  pub In-in_row : (s n i : ℕ) → i < n → In (f (s + i)) (in_row f s n)
  In-in_row s n i below = In-slice_get (f (s + i)) (in_row f s n) i (in_rule_at s n i below)

module _ {A B : Type 0} where
  pub map-in_row : (g : A → B) (f : ℕ → A) (s n : ℕ) → map g (in_row f s n) ≡ in_row (λ i. g (f i)) s n
  map-in_row g f s zero = refl
  map-in_row g f s (suc n) = ap (λ xs. g (f s) ∷ xs) (map-in_row g f (suc s) n)

  -- a list of as many members is a rule where each member is what the rule has
  pub map-is-in_row : (g : A → B) (xs : List A) (f : ℕ → B) (s n : ℕ) → length xs ≡ n
      → ((i : ℕ) (x : A) → slice_get xs i ≡ Some x → g x ≡ f (s + i)) → map g xs ≡ in_row f s n
  map-is-in_row g [] f s zero size each = refl
  map-is-in_row g [] f s (suc n) size each = absurd (omega arith)
  map-is-in_row g (x ∷ xs) f s zero size each = absurd (omega arith)
  map-is-in_row g (x ∷ xs) f s (suc n) size each =
      ap₂ (λ y ys. y ∷ ys) (each 0 x refl ∙ ap f (add-zero s))
      (map-is-in_row g xs f (suc s) n (omega arith)
      (λ i y is. each (suc i) y is ∙ ap f (let e : s + suc i ≡ suc s + i = omega arith in e)))

-- ---- joined lists

module _ {A B : Type 0} (f : A → List B) where
  -- the parts before a position, its own, and those after it
  pub flat_map_split : (xs : List A) (i : ℕ) (x : A) → slice_get xs i ≡ Some x
      → flat_map f xs ≡ flat_map f (take i xs) ++ (f x ++ flat_map f (drop (suc i) xs))
  flat_map_split xs i x is = ap (flat_map f) (split_at xs i x is) ∙ flat_map-append f (take i xs) (x ∷ drop (suc i) xs)

  -- what stands in the part of a position
  pub flat_map_at : (xs : List A) (i k : ℕ) (x : A) → slice_get xs i ≡ Some x → k < length (f x)
      → slice_get (flat_map f xs) (length (flat_map f (take i xs)) + k) ≡ slice_get (f x) k
  flat_map_at xs i k x is below =
      ap (λ ys. slice_get ys (length (flat_map f (take i xs)) + k)) (flat_map_split xs i x is)
      ∙ slice_get-append_right (flat_map f (take i xs)) (f x ++ flat_map f (drop (suc i) xs)) k
      ∙ slice_get-append_left (f x) (flat_map f (drop (suc i) xs)) k below

  -- the beginning up to a position in the part of a position
  pub flat_map_take : (xs : List A) (i k : ℕ) (x : A) → slice_get xs i ≡ Some x → k ≤ length (f x)
      → take (length (flat_map f (take i xs)) + k) (flat_map f xs) ≡ flat_map f (take i xs) ++ take k (f x)
  flat_map_take xs i k x is below =
      ap (take (length (flat_map f (take i xs)) + k)) (flat_map_split xs i x is)
      ∙ take-append_right (flat_map f (take i xs)) (f x ++ flat_map f (drop (suc i) xs)) k
      ∙ ap (λ ys. flat_map f (take i xs) ++ ys) (take-append-le k (f x) (flat_map f (drop (suc i) xs)) below)

  -- a position of the joined lists is in the part of one
  pub flat_map_position : (xs : List A) (n : ℕ) (y : B) → slice_get (flat_map f xs) n ≡ Some y
      → (i : ℕ) × (k : ℕ) × (x : A) × (slice_get xs i ≡ Some x) × (slice_get (f x) k ≡ Some y) × (n ≡ length (flat_map f (take i xs)) + k)
  flat_map_position [] n y is = cc
  flat_map_position (x ∷ xs) n y is = go (grind arith) (flat_map_position xs (n - length (f x)) y)
    where
      go : (n < length (f x)) ⊎ (length (f x) ≤ n)
          → (slice_get (flat_map f xs) (n - length (f x)) ≡ Some y → (i : ℕ) × (k : ℕ) × (z : A) × (slice_get xs i ≡ Some z) × (slice_get (f z) k ≡ Some y) × (n - length (f x) ≡ length (flat_map f (take i xs)) + k))
          → (i : ℕ) × (k : ℕ) × (z : A) × (slice_get (x ∷ xs) i ≡ Some z) × (slice_get (f z) k ≡ Some y) × (n ≡ length (flat_map f (take i (x ∷ xs))) + k)
      go (inl below) rest = (0, n, x, refl, sym (slice_get-append_left (f x) (flat_map f xs) n below) ∙ is, sym (zero-add n))
      go (inr past) rest =
          let sum : n ≡ length (f x) + (n - length (f x)) = omega arith in
          let later : slice_get (flat_map f xs) (n - length (f x)) ≡ Some y =
          sym (slice_get-append_right (f x) (flat_map f xs) (n - length (f x))) ∙ ap (slice_get (f x ++ flat_map f xs)) (sym sum) ∙ is in
          let found = rest later in
          let position : n - length (f x) ≡ length (flat_map f (take found.0 xs)) + found.1 = found.5 in (
            suc found.0,
            found.1,
            found.2,
            found.3,
            found.4,
            omega (arith, length-append (f x) (flat_map f (take found.0 xs))),
          )

module _ {A B C : Type 0} where
  pub flat_map-map : (f : B → List C) (g : A → B) (xs : List A) → flat_map f (map g xs) ≡ flat_map (λ x. f (g x)) xs
  flat_map-map f g [] = refl
  flat_map-map f g (x ∷ xs) = ap (λ ys. f (g x) ++ ys) (flat_map-map f g xs)

  pub map-flat_map : (g : B → C) (f : A → List B) (xs : List A) → map g (flat_map f xs) ≡ flat_map (λ x. map g (f x)) xs
  map-flat_map g f [] = refl
  map-flat_map g f (x ∷ xs) = map-append g (f x) (flat_map f xs) ∙ ap (λ ys. map g (f x) ++ ys) (map-flat_map g f xs)

module _ {A B : Type 0} where
  pub flat_map_same : (f g : A → List B) (xs : List A) → ((x : A) → In x xs → f x ≡ g x) → flat_map f xs ≡ flat_map g xs
  flat_map_same f g [] agree = refl
  flat_map_same f g (x ∷ xs) agree = ap₂ (λ ys zs. ys ++ zs) (agree x (inl refl)) (flat_map_same f g xs (λ z here. agree z (inr here)))

  -- parts of equal lengths begin at equal positions
  pub flat_map_lengths : {C D : Type 0} (f : A → List B) (g : C → List D) (xs : List A) (ys : List C)
      → length xs ≡ length ys → ((i : ℕ) (x : A) (y : C) → slice_get xs i ≡ Some x → slice_get ys i ≡ Some y → length (f x) ≡ length (g y))
      → (i : ℕ) → length (flat_map f (take i xs)) ≡ length (flat_map g (take i ys))
  flat_map_lengths f g xs ys size each zero = refl
  flat_map_lengths f g [] [] size each (suc i) = refl
  flat_map_lengths f g [] (y ∷ ys) size each (suc i) = absurd (omega arith)
  flat_map_lengths f g (x ∷ xs) [] size each (suc i) = absurd (omega arith)
  flat_map_lengths f g (x ∷ xs) (y ∷ ys) size each (suc i) =
      length-append (f x) (flat_map f (take i xs))
      ∙ ap₂ (λ a b. a + b) (each 0 x y refl refl) (flat_map_lengths f g xs ys (omega arith) (λ k u v is is'. each (suc k) u v is is') i)
      ∙ sym (length-append (g y) (flat_map g (take i ys)))

module _ {A : Type 0} (f : A → Bool) where
  -- what is left of a list stands in the list, after those before it
  pub filter_position : (xs : List A) (u : ℕ) (x : A) → slice_get (filter f xs) u ≡ Some x
      → (j : ℕ) × (slice_get xs j ≡ Some x) × (f x ≡ true) × (length (filter f (take j xs)) ≡ u)
  filter_position [] u x is = cc
  filter_position (y ∷ xs) u x is = go (f y) refl u is (λ v. filter_position xs v x)
    where
      go : (b : Bool) → f y ≡ b → (u : ℕ) → slice_get (cond b (y ∷ filter f xs) (filter f xs)) u ≡ Some x
          → ((v : ℕ) → slice_get (filter f xs) v ≡ Some x → (j : ℕ) × (slice_get xs j ≡ Some x) × (f x ≡ true) × (length (filter f (take j xs)) ≡ v))
          → (j : ℕ) × (slice_get (y ∷ xs) j ≡ Some x) × (f x ≡ true) × (length (filter f (take j (y ∷ xs))) ≡ u)
      go true member zero here rest = let same : y ≡ x = cc in (0, here, ap f (sym same) ∙ member, refl)
      go true member (suc u) here rest =
          let found = rest u here in
          (suc found.0, found.1, found.2, ap (λ b. length (cond b (y ∷ filter f (take found.0 xs)) (filter f (take found.0 xs)))) member ∙ ap suc found.3)
      go false no_member u here rest =
          let found = rest u here in
          (suc found.0, found.1, found.2, ap (λ b. length (cond b (y ∷ filter f (take found.0 xs)) (filter f (take found.0 xs)))) no_member ∙ found.3)
