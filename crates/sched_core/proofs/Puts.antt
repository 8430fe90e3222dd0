-- Maps that are changed at one number.
use Rattle.std.proofs.Common.{◌≡◌, ◌≢◌, ℕ, refl, sym, ap, ◌∙◌}
use Rattle.std.specs.Prelude.{◌==◌}
use Rattle.std.proofs.lemmas.Bool.{eq-eqb, ne_eqb, eqb-true, eqb-false, cond-true, cond-false, cond_both}
use Rattle.sched_core.specs.Sums.{put}

module _ {A : Type 0} where
  pub put-here : (i : ℕ) (x : A) (f : ℕ → A) → put i x f i ≡ x
  put-here i x f = cond-true (i == i) x (f i) (eq-eqb i i refl)

  pub put-other : (i : ℕ) (x : A) (f : ℕ → A) (k : ℕ) → k ≢ i → put i x f k ≡ f k
  put-other i x f k other = cond-false (k == i) x (f k) (ne_eqb k i other)

  -- what holds of the new value at i, and of the old ones elsewhere, holds of each value
  pub put_cases : (P : A → Type 0) (i : ℕ) (x : A) (f : ℕ → A) (k : ℕ) → (k ≡ i → P x) → (k ≢ i → P (f k)) → P (put i x f k)
  put_cases P i x f k here other = cond_both (k == i) x (f k) P (λ e. here (eqb-true k i e)) (λ e. other (eqb-false k i e))

  -- where the new value has the same part as the old one, each value has the same part
  pub put_keeps : {B : Type 0} (part : A → B) (i : ℕ) (x : A) (f : ℕ → A) → part x ≡ part (f i) → (k : ℕ) → part (put i x f k) ≡ part (f k)
  put_keeps part i x f same k =
      put_cases (λ y. part y ≡ part (f k)) i x f k (λ here. same ∙ ap (λ n. part (f n)) (sym here)) (λ other. refl)
