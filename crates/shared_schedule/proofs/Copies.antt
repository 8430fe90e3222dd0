-- What goes over the edges of a schedule.
use Rattle.std.proofs.Common.{◌≡◌, ℕ, ◌+◌, ◌<◌, List, [], ◌∷◌, ◌++◌, length, Option, Some, slice_get, refl, sym, ap, subst, ◌∙◌, ◌⊎◌, inl, inr, arith}
use Rattle.std.proofs.lemmas.List.{length-append}
use Rattle.wiring.specs.Wiring.{In}
use Rattle.wiring.proofs.Members.{In-append_left, In-append_right, In-append_cases}
use Rattle.shared_schedule.specs.Copies.{AreCopies}
use Rattle.shared_schedule.proofs.FirstTable.{get-last}

module _ {B : Type 0} where
  -- one more was received
  pub received-each : (copied : ℕ → Option B → Type 0) (k : ℕ → ℕ) (xs ys : List (Option B)) (o : Option B) (n : ℕ) → length xs ≡ n
      → ((i : ℕ) (x : Option B) → slice_get xs i ≡ Some x → copied (k i) x) → copied (k n) o → ys ≡ xs ++ o ∷ []
      → (i : ℕ) (x : Option B) → slice_get ys i ≡ Some x → copied (k i) x
  received-each copied k xs ys o n many each here is i x at = go (get-last xs o x i (ap (λ zs. slice_get zs i) (sym is) ∙ at))
    where
      go : ((i < length xs) × (slice_get xs i ≡ Some x)) ⊎ ((i ≡ length xs) × (o ≡ x)) → copied (k i) x
      go (inl (within, before)) = each i x before
      go (inr (position, same)) = subst (copied (k i)) same (subst (λ j. copied (k j) o) (sym (position ∙ many)) here)

  pub one-more : (xs ys : List (Option B)) (o : Option B) (n : ℕ) → length xs ≡ n → ys ≡ xs ++ o ∷ [] → length ys ≡ n + 1
  one-more xs ys o n many is = ap length is ∙ length-append xs (o ∷ []) ∙ ap (λ j. j + 1) many

  -- one more was made
  pub copies-more : (copied : Option B → Type 0) (n : ℕ) (xs ys : List (Option B)) (o : Option B) → AreCopies copied n xs → copied o → ys ≡ xs ++ o ∷ [] → AreCopies copied (n + 1) ys
  copies-more copied n xs ys o are here is = record {
    many = one-more xs ys o n are.many is;
    each = λ x among. go x (In-append_cases x xs (o ∷ []) (subst (In x) is among));
  }
    where
      go : (x : Option B) → In x xs ⊎ In x (o ∷ []) → copied x
      go x (inl before) = are.each x before
      go x (inr (inl same)) = subst copied (sym same) here
      go x (inr (inr never)) = absurd never

  -- one is taken
  pub copies-fewer : (xs ys : List (Option B)) (o : Option B) (k n : ℕ) → length xs + k ≡ n → xs ≡ ys ++ o ∷ [] → length ys + (k + 1) ≡ n
  copies-fewer xs ys o k n many is =
      let sum : length xs ≡ length ys + 1 = ap length is ∙ length-append ys (o ∷ []) in
      omega (arith, sum, many)

  pub copy-here : (copied : Option B → Type 0) (xs ys : List (Option B)) (o : Option B) → ((x : Option B) → In x xs → copied x) → xs ≡ ys ++ o ∷ [] → copied o
  copy-here copied xs ys o each is = each o (subst (In o) (sym is) (In-append_right o ys (o ∷ []) (inl refl)))

  pub copies-left : (copied : Option B → Type 0) (xs ys : List (Option B)) (o : Option B) → ((x : Option B) → In x xs → copied x) → xs ≡ ys ++ o ∷ [] → (x : Option B) → In x ys → copied x
  copies-left copied xs ys o each is x among = each x (subst (In x) (sym is) (In-append_left x ys (o ∷ []) among))
