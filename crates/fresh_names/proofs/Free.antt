-- A free name is not taken: among one more suffixed names than there are names one is free.
use Rattle.std.proofs.Common.{◌≡◌, ℕ, zero, suc, ◌+◌, ◌<◌, ◌≤◌, ◌^◌, Bool, true, false, cond, nat_eq, List, [], ◌∷◌, length, decimal, refl, sym, ap, ◌∙◌, arith}
use Rattle.std.specs.Cmp.Lexicographic.{pointwise}
use Rattle.std.proofs.lemmas.List.{append_cancel_left}
use Rattle.std.proofs.lemmas.Fmt.{decimal_injective}
use Rattle.std.proofs.lemmas.Bool.{eqb-true, eqb-false}
use Rattle.fresh_names.specs.Fresh.{Name, is_taken, with_suffix, free_from, free_name}
use Rattle.fresh_names.proofs.Taken.{same_is}

pub suffix_once : (w : Name) (i j : ℕ) → i < 2 ^ 64 → j < 2 ^ 64 → with_suffix w i ≡ with_suffix w j → i ≡ j
unfolding with_suffix
suffix_once w i j a b e = decimal_injective i j a b (tail (decimal i) (decimal j) (append_cancel_left w (95 ∷ decimal i) (95 ∷ decimal j) e))
  where
    tail : (xs ys : List ℕ) → 95 ∷ xs ≡ 95 ∷ ys → xs ≡ ys
    tail xs ys e = cc

-- names without the first that equals one
abbrev without : Name → List Name → List Name
without x [] = []
without x (t ∷ ts) = cond (pointwise nat_eq t x) ts (t ∷ without x ts)

without_length : (x : Name) (ts : List Name) → is_taken ts x ≡ true → length ts ≡ suc (length (without x ts))
without_length x [] e = cc
without_length x (t ∷ ts) e = go (pointwise nat_eq t x) e (without_length x ts)
  where
    go : (b : Bool) → cond b true (is_taken ts x) ≡ true → (is_taken ts x ≡ true → length ts ≡ suc (length (without x ts)))
        → suc (length ts) ≡ suc (length (cond b ts (t ∷ without x ts)))
    go true e r = refl
    go false e r = ap suc (r e)

without_taken : (x y : Name) (ts : List Name) → (x ≡ y → ⊥) → is_taken ts y ≡ true → is_taken (without x ts) y ≡ true
without_taken x y [] other e = cc
without_taken x y (t ∷ ts) other e = go (pointwise nat_eq t x) (pointwise nat_eq t y) refl refl e (without_taken x y ts other)
  where
    go : (b c : Bool) → pointwise nat_eq t x ≡ b → pointwise nat_eq t y ≡ c → cond c true (is_taken ts y) ≡ true
        → (is_taken ts y ≡ true → is_taken (without x ts) y ≡ true) → is_taken (cond b ts (t ∷ without x ts)) y ≡ true
    go true true p q e r = absurd (other (sym (same_is t x p) ∙ same_is t y q))
    go true false p q e r = e
    go false true p q e r = ap (λ z. cond z true (is_taken (without x ts) y)) q
    go false false p q e r = ap (λ z. cond z true (is_taken (without x ts) y)) q ∙ r e

-- so many different names that are taken
few : (w : Name) (n : ℕ) (ts : List Name) → n < 2 ^ 64 → ((k : ℕ) → k < n → is_taken ts (with_suffix w k) ≡ true) → n ≤ length ts
few w zero ts small h = omega arith
few w (suc n) ts small h =
    let one : length ts ≡ suc (length (without (with_suffix w n) ts)) = without_length (with_suffix w n) ts (h n (omega arith)) in
    let rest : n ≤ length (without (with_suffix w n) ts) =
    few w n (without (with_suffix w n) ts) (omega (arith, small))
    (λ k lt. without_taken (with_suffix w n) (with_suffix w k) ts (λ e. omega (arith, lt, suffix_once w n k (omega (arith, small)) (omega (arith, small, lt)) e)) (h k (omega (arith, lt)))) in
    omega (arith, one, rest)

pub all_below : (ts : List Name) (w : Name) (k : ℕ) → is_taken ts (with_suffix w k) ≡ true → ((j : ℕ) → j < k → is_taken ts (with_suffix w j) ≡ true)
    → (j : ℕ) → j < k + 1 → is_taken ts (with_suffix w j) ≡ true
all_below ts w k t h j lt = here (nat_eq j k) refl
  where
    here : (b : Bool) → nat_eq j k ≡ b → is_taken ts (with_suffix w j) ≡ true
    here true e = ap (λ i. is_taken ts (with_suffix w i)) (eqb-true j k e) ∙ t
    here false e = h j (omega (arith, lt, eqb-false j k e))

-- where all the smaller ones are taken the first from a number on is free
free_after : (ts : List Name) (w : Name) (n k : ℕ) → n + k ≡ length ts → length ts + 1 < 2 ^ 64
    → ((j : ℕ) → j < k → is_taken ts (with_suffix w j) ≡ true) → is_taken ts (free_from ts w n k) ≡ false
free_after ts w zero k e small h = go (is_taken ts (with_suffix w k)) refl
  where
    go : (b : Bool) → is_taken ts (with_suffix w k) ≡ b → is_taken ts (with_suffix w k) ≡ false
    go true t = absurd (omega (arith, e, few w (k + 1) ts (omega (arith, e, small)) (all_below ts w k t h)))
    go false t = t
free_after ts w (suc n) k e small h = go (is_taken ts (with_suffix w k)) refl (free_after ts w n (k + 1) (omega (arith, e)) small)
  where
    go : (b : Bool) → is_taken ts (with_suffix w k) ≡ b → (((j : ℕ) → j < k + 1 → is_taken ts (with_suffix w j) ≡ true) → is_taken ts (free_from ts w n (k + 1)) ≡ false)
        → is_taken ts (cond b (free_from ts w n (k + 1)) (with_suffix w k)) ≡ false
    go true t rest = rest (all_below ts w k t h)
    go false t rest = t

pub suffix_free : (ts : List Name) (w : Name) → length ts + 1 < 2 ^ 64 → is_taken ts (free_from ts w (length ts) 0) ≡ false
suffix_free ts w small = free_after ts w (length ts) 0 (omega arith) small (λ j lt. absurd (omega (arith, lt)))

pub name_free : (ts : List Name) (w : Name) → length ts + 1 < 2 ^ 64 → is_taken ts (free_name ts w) ≡ false
unfolding free_name
name_free ts w small = go (is_taken ts w) refl
  where
    go : (b : Bool) → is_taken ts w ≡ b → is_taken ts (cond b (free_from ts w (length ts) 0) w) ≡ false
    go true t = suffix_free ts w small
    go false t = t

pub name_stays : (ts : List Name) (w : Name) → is_taken ts w ≡ false → free_name ts w ≡ w
unfolding free_name
name_stays ts w t = ap (λ b. cond b (free_from ts w (length ts) 0) w) t

pub name_suffixed : (ts : List Name) (w : Name) → is_taken ts w ≡ true → free_name ts w ≡ free_from ts w (length ts) 0
unfolding free_name
name_suffixed ts w t = ap (λ b. cond b (free_from ts w (length ts) 0) w) t
