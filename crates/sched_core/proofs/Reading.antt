-- The tables as maps: what a write does to the state that they tell.
use Rattle.std.proofs.Common.{◌≡◌, ◌≢◌, ℕ, zero, suc, ◌<◌, ◌≤◌, ◌⊎◌, List, [], ◌∷◌, length, set, get_or, refl, sym, ap, subst, ◌∙◌, inl, inr, arith}
use Rattle.std.proofs.lemmas.Bool.{cases_eq}
use Rattle.std.proofs.lemmas.List.{get_or-set_same, get_or-set_other}
use mathlib.Core.Path.{fun_ext}
use Rattle.sched_core.specs.Sums.{put}
use Rattle.sched_core.proofs.Puts.{put-here, put-other}

module _ {A B : Type 0} where
  -- a part of each entry after a write
  pub part-set : (part : A → B) (d : A) (xs : List A) (i : ℕ) (x : A) → i < length xs
      → (k : ℕ) → part (get_or (set xs i x) k d) ≡ put i (part x) (λ j. part (get_or xs j d)) k
  part-set part d xs i x within k = go (cases_eq k i)
    where
      go : (k ≡ i) ⊎ (k ≢ i) → part (get_or (set xs i x) k d) ≡ put i (part x) (λ j. part (get_or xs j d)) k
      go (inl here) =
          let P : ℕ → Type 0 = λ n. part (get_or (set xs i x) n d) ≡ put i (part x) (λ j. part (get_or xs j d)) n in
          subst P (sym here) (ap part (get_or-set_same xs i x d within) ∙ sym (put-here i (part x) (λ j. part (get_or xs j d))))
      go (inr other) = ap part (get_or-set_other xs i k x d other) ∙ sym (put-other i (part x) (λ j. part (get_or xs j d)) k other)

  -- as maps
  pub parts-set : (part : A → B) (d : A) (xs : List A) (i : ℕ) (x : A) → i < length xs
      → (λ (k : ℕ). part (get_or (set xs i x) k d)) ≡ put i (part x) (λ j. part (get_or xs j d))
  parts-set part d xs i x within = fun_ext (part-set part d xs i x within)

-- past the end of a list stands the default
pub get_or-past : {A : Type 0} (xs : List A) (k : ℕ) (d : A) → length xs ≤ k → get_or xs k d ≡ d
get_or-past [] k d past = refl
get_or-past (x ∷ xs) zero d past = absurd (omega arith)
get_or-past (x ∷ xs) (suc k) d past = get_or-past xs k d (omega arith)
