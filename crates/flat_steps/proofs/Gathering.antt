-- Numbers that are gathered along a list.
use Rattle.std.proofs.Common.{◌≡◌, ℕ, zero, suc, ◌+◌, ◌≤◌, List, [], ◌∷◌, ◌++◌, length, drop, slice_get, Some, refl, sym, ap, ◌∙◌, arith, append_assoc, append-nil}
use Rattle.wiring.proofs.Lists.{drop_some}
use Rattle.hw_model.specs.Design.{Op}
use Rattle.flat_steps.specs.Tables.{own_position, register_positions}

module _ {A : Type 0} (all : ℕ → List A → List ℕ) (own : ℕ → A → List ℕ) (none : (n : ℕ) → all n [] ≡ []) (step : (n : ℕ) (x : A) (xs : List A) → all n (x ∷ xs) ≡ own n x ++ all (n + 1) xs) where
  numbered_more : (xs : List A) (i : ℕ) (x : A) (done more : List ℕ) → slice_get xs i ≡ Some x → more ≡ done ++ own i x → done ++ all i (drop i xs) ≡ all 0 xs
      → more ++ all (i + 1) (drop (i + 1) xs) ≡ all 0 xs
  numbered_more xs i x done more at is have =
      let next : suc i ≡ i + 1 = omega arith in
      ap (λ (ns : List ℕ). ns ++ all (i + 1) (drop (i + 1) xs)) is
      ∙ append_assoc done (own i x) (all (i + 1) (drop (i + 1) xs))
      ∙ ap (λ (k : ℕ). done ++ (own i x ++ all (i + 1) (drop k xs))) (sym next)
      ∙ ap (λ (ns : List ℕ). done ++ ns) (sym (step i x (drop (suc i) xs)))
      ∙ ap (λ (ys : List A). done ++ all i ys) (sym (drop_some xs i x at))
      ∙ have

  dropped : (xs : List A) (i : ℕ) → length xs ≤ i → drop i xs ≡ []
  dropped [] zero past = refl
  dropped [] (suc i) past = refl
  dropped (x ∷ xs) zero past = absurd (omega arith)
  dropped (x ∷ xs) (suc i) past = dropped xs i (omega arith)

  numbered_end : (xs : List A) (i : ℕ) (done : List ℕ) → length xs ≤ i → done ++ all i (drop i xs) ≡ all 0 xs → done ≡ all 0 xs
  numbered_end xs i done past have =
      sym (ap (λ (ys : List A). done ++ all i ys) (dropped xs i past) ∙ ap (λ (ns : List ℕ). done ++ ns) (none i) ∙ append-nil done) ∙ have

pub positions_more : (os : List Op) (i : ℕ) (o : Op) (done more : List ℕ) → slice_get os i ≡ Some o → more ≡ done ++ own_position i o → done ++ register_positions i (drop i os) ≡ register_positions 0 os
    → more ++ register_positions (i + 1) (drop (i + 1) os) ≡ register_positions 0 os
positions_more = numbered_more register_positions own_position (λ n. refl) (λ n x xs. refl)

pub positions_end : (os : List Op) (i : ℕ) (done : List ℕ) → length os ≤ i → done ++ register_positions i (drop i os) ≡ register_positions 0 os → done ≡ register_positions 0 os
positions_end = numbered_end register_positions own_position (λ n. refl) (λ n x xs. refl)
