-- Lists by positions: what stands at a position of joined lists, of parts and after a write.
-- The standard library has more: `slice_get-map` and `slice_get_past` in `lemmas.Option`, `map-append`, `length-map`,
-- `take_at`, `drop_at` and others in `lemmas.List`, and what `insert` and `remove` leave in `lemmas.List.Edits`.
use Rattle.std.proofs.Common.{◌≡◌, ℕ, zero, suc, ◌+◌, ◌-◌, ◌<◌, ◌≤◌, ◌≢◌, List, [], ◌∷◌, ◌++◌, length, take, drop, set, slice_get, Some, None, refl, sym, ap, ap₂, ◌∙◌, arith, zero-add, suc-add}
pub use mathlib.Core.List.{map-map}

module _ {A : Type 0} where
  pub slice_get-append_left : (xs ys : List A) (i : ℕ) → i < length xs → slice_get (xs ++ ys) i ≡ slice_get xs i
  slice_get-append_left [] ys i within = absurd (omega arith)
  slice_get-append_left (x ∷ xs) ys zero within = refl
  slice_get-append_left (x ∷ xs) ys (suc i) within = slice_get-append_left xs ys i (omega arith)

  pub slice_get-append_right : (xs ys : List A) (k : ℕ) → slice_get (xs ++ ys) (length xs + k) ≡ slice_get ys k
  slice_get-append_right [] ys k = ap (slice_get ys) (zero-add k)
  slice_get-append_right (x ∷ xs) ys k =
      ap (slice_get (x ∷ xs ++ ys)) (suc-add (length xs) k) ∙ slice_get-append_right xs ys k

  -- the same from the position in the whole
  pub slice_get-append_past : (xs ys : List A) (i : ℕ) → length xs ≤ i → slice_get (xs ++ ys) i ≡ slice_get ys (i - length xs)
  slice_get-append_past xs ys i past =
      let sum : i ≡ length xs + (i - length xs) = omega arith in
      ap (slice_get (xs ++ ys)) sum ∙ slice_get-append_right xs ys (i - length xs)

  pub slice_get-append_at : (xs : List A) (y : A) (ys : List A) → slice_get (xs ++ y ∷ ys) (length xs) ≡ Some y
  slice_get-append_at [] y ys = refl
  slice_get-append_at (x ∷ xs) y ys = slice_get-append_at xs y ys

  pub slice_get-append_some : (xs ys : List A) (i : ℕ) (x : A) → slice_get xs i ≡ Some x → slice_get (xs ++ ys) i ≡ Some x
  slice_get-append_some [] ys i x is = cc
  slice_get-append_some (z ∷ zs) ys zero x is = is
  slice_get-append_some (z ∷ zs) ys (suc i) x is = slice_get-append_some zs ys i x is

  pub take-append_right : (xs ys : List A) (k : ℕ) → take (length xs + k) (xs ++ ys) ≡ xs ++ take k ys
  take-append_right [] ys k = ap (λ n. take n ys) (zero-add k)
  take-append_right (x ∷ xs) ys k =
      ap (λ n. take n (x ∷ xs ++ ys)) (suc-add (length xs) k) ∙ ap (λ zs. x ∷ zs) (take-append_right xs ys k)

  pub drop-append_right : (xs ys : List A) (k : ℕ) → drop (length xs + k) (xs ++ ys) ≡ drop k ys
  drop-append_right [] ys k = ap (λ n. drop n ys) (zero-add k)
  drop-append_right (x ∷ xs) ys k =
      ap (λ n. drop n (x ∷ xs ++ ys)) (suc-add (length xs) k) ∙ drop-append_right xs ys k

  pub slice_get-take : (n : ℕ) (xs : List A) (i : ℕ) → i < n → slice_get (take n xs) i ≡ slice_get xs i
  slice_get-take zero xs i below = absurd (omega arith)
  slice_get-take (suc n) [] i below = refl
  slice_get-take (suc n) (x ∷ xs) zero below = refl
  slice_get-take (suc n) (x ∷ xs) (suc i) below = slice_get-take n xs i (omega arith)

  pub slice_get-take_past : (n : ℕ) (xs : List A) (i : ℕ) → n ≤ i → slice_get (take n xs) i ≡ None
  slice_get-take_past zero xs i past = refl
  slice_get-take_past (suc n) [] i past = refl
  slice_get-take_past (suc n) (x ∷ xs) zero past = absurd (omega arith)
  slice_get-take_past (suc n) (x ∷ xs) (suc i) past = slice_get-take_past n xs i (omega arith)

  pub slice_get-drop : (n : ℕ) (xs : List A) (i : ℕ) → slice_get (drop n xs) i ≡ slice_get xs (n + i)
  slice_get-drop zero xs i = ap (slice_get xs) (sym (zero-add i))
  slice_get-drop (suc n) [] i = refl
  slice_get-drop (suc n) (x ∷ xs) i = slice_get-drop n xs i ∙ ap (slice_get (x ∷ xs)) (sym (suc-add n i))

  pub slice_get-set_same : (xs : List A) (i : ℕ) (x : A) → i < length xs → slice_get (set xs i x) i ≡ Some x
  slice_get-set_same [] i x within = absurd (omega arith)
  slice_get-set_same (y ∷ ys) zero x within = refl
  slice_get-set_same (y ∷ ys) (suc i) x within = slice_get-set_same ys i x (omega arith)

  pub slice_get-set_other : (xs : List A) (i j : ℕ) (x : A) → j ≢ i → slice_get (set xs i x) j ≡ slice_get xs j
  slice_get-set_other [] i j x other = refl
  slice_get-set_other (y ∷ ys) zero zero x other = absurd (other refl)
  slice_get-set_other (y ∷ ys) zero (suc j) x other = refl
  slice_get-set_other (y ∷ ys) (suc i) zero x other = refl
  slice_get-set_other (y ∷ ys) (suc i) (suc j) x other = slice_get-set_other ys i j x (λ same. other (ap suc same))

  -- a write of what stands there changes nothing
  pub set_some : (xs : List A) (i : ℕ) (x : A) → slice_get xs i ≡ Some x → set xs i x ≡ xs
  set_some [] i x is = refl
  set_some (y ∷ ys) zero x is = let same : x ≡ y = cc in ap (λ z. z ∷ ys) same
  set_some (y ∷ ys) (suc i) x is = ap (λ zs. y ∷ zs) (set_some ys i x is)

  -- the positions of a list are those below its length
  pub slice_get_some : (xs : List A) (i : ℕ) → i < length xs → (x : A) × (slice_get xs i ≡ Some x)
  slice_get_some [] i within = absurd (omega arith)
  slice_get_some (x ∷ xs) zero within = (x, refl)
  slice_get_some (x ∷ xs) (suc i) within = slice_get_some xs i (omega arith)

  -- a list is its prefix, what stands at a position, and the rest
  pub split_at : (xs : List A) (i : ℕ) (x : A) → slice_get xs i ≡ Some x → xs ≡ take i xs ++ x ∷ drop (suc i) xs
  split_at [] i x is = cc
  split_at (y ∷ ys) zero x is = let same : y ≡ x = cc in ap (λ z. z ∷ ys) same
  split_at (y ∷ ys) (suc i) x is = ap (λ zs. y ∷ zs) (split_at ys i x is)

  pub take-suc_some : (xs : List A) (i : ℕ) (x : A) → slice_get xs i ≡ Some x → take (suc i) xs ≡ take i xs ++ x ∷ []
  take-suc_some [] i x is = cc
  take-suc_some (y ∷ ys) zero x is = let same : y ≡ x = cc in ap (λ z. z ∷ []) same
  take-suc_some (y ∷ ys) (suc i) x is = ap (λ zs. y ∷ zs) (take-suc_some ys i x is)

  pub drop_some : (xs : List A) (i : ℕ) (x : A) → slice_get xs i ≡ Some x → drop i xs ≡ x ∷ drop (suc i) xs
  drop_some [] i x is = cc
  drop_some (y ∷ ys) zero x is = let same : y ≡ x = cc in ap (λ z. z ∷ ys) same
  drop_some (y ∷ ys) (suc i) x is = drop_some ys i x is

  -- two lists are equal where the same stands at each position
  pub same_positions : (xs ys : List A) → ((i : ℕ) → slice_get xs i ≡ slice_get ys i) → xs ≡ ys
  same_positions [] [] same = refl
  same_positions [] (y ∷ ys) same = let clash = same 0 in cc
  same_positions (x ∷ xs) [] same = let clash = same 0 in cc
  same_positions (x ∷ xs) (y ∷ ys) same =
      let first : x ≡ y = let e = same 0 in cc in
      ap₂ (λ z zs. z ∷ zs) first (same_positions xs ys (λ i. same (suc i)))
