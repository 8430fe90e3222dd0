-- Names that are given in turn are different.
use Rattle.std.proofs.Common.{◌≡◌, ℕ, zero, suc, ◌+◌, ◌<◌, ◌^◌, Bool, true, false, cond, List, [], ◌∷◌, ◌++◌, length, refl, sym, ap, ◌∙◌, true≢false, arith}
use Rattle.std.specs.Prelude.{Some, slice_get}
use Rattle.fresh_names.specs.Fresh.{Name, is_taken, with_suffix, free_from, free_name, fresh}
use Rattle.fresh_names.specs.Different.{AreDifferent}
use Rattle.fresh_names.proofs.Taken.{taken_more, taken_last, one_more}
use Rattle.fresh_names.proofs.Free.{name_free, name_suffixed, all_below}

pub fresh_count : (ts ws : List Name) → length (fresh ts ws) ≡ length ws
fresh_count ts [] = refl
fresh_count ts (w ∷ ws) = ap suc (fresh_count (ts ++ free_name ts w ∷ []) ws)

-- what is free of both lists together is free of the first
pub free_prefix : (ts us : List Name) (q : Name) → is_taken (ts ++ us) q ≡ false → is_taken ts q ≡ false
free_prefix ts us q e = go (is_taken ts q) refl
  where
    go : (b : Bool) → is_taken ts q ≡ b → is_taken ts q ≡ false
    go true t = absurd (true≢false (sym (taken_more ts us q t) ∙ e))
    go false t = t

more_length : (ts : List Name) (t : Name) (n : ℕ) → length ts + suc n < 2 ^ 64 → length (ts ++ t ∷ []) + n < 2 ^ 64
more_length ts t n h = omega (arith, h, one_more ts t)

pub fresh_free : (ts ws : List Name) (i : ℕ) (q : Name) → length ts + length ws < 2 ^ 64 → slice_get (fresh ts ws) i ≡ Some q → is_taken ts q ≡ false
fresh_free ts [] i q small e = cc
fresh_free ts (w ∷ ws) zero q small e =
    let s : free_name ts w ≡ q = cc in ap (is_taken ts) (sym s) ∙ name_free ts w (omega (arith, small))
fresh_free ts (w ∷ ws) (suc i) q small e =
    free_prefix ts (free_name ts w ∷ []) q (fresh_free (ts ++ free_name ts w ∷ []) ws i q (more_length ts (free_name ts w) (length ws) small) e)

-- what comes later is another one
later : (ts ws : List Name) (w : Name) (i : ℕ) → length ts + suc (length ws) < 2 ^ 64
    → slice_get (fresh (ts ++ free_name ts w ∷ []) ws) i ≡ Some (free_name ts w) → ⊥
later ts ws w i small e =
    true≢false (sym (taken_last ts (free_name ts w))
    ∙ fresh_free (ts ++ free_name ts w ∷ []) ws i (free_name ts w) (more_length ts (free_name ts w) (length ws) small) e)

pub fresh_different : (ts ws : List Name) → length ts + length ws < 2 ^ 64 → AreDifferent (fresh ts ws)
fresh_different ts [] small i j q e f = cc
fresh_different ts (w ∷ ws) small zero zero q e f = refl
fresh_different ts (w ∷ ws) small zero (suc j) q e f = let s : q ≡ free_name ts w = cc in absurd (later ts ws w j small (f ∙ ap Some s))
fresh_different ts (w ∷ ws) small (suc i) zero q e f = let s : q ≡ free_name ts w = cc in absurd (later ts ws w i small (e ∙ ap Some s))
fresh_different ts (w ∷ ws) small (suc i) (suc j) q e f =
    ap suc (fresh_different (ts ++ free_name ts w ∷ []) ws (more_length ts (free_name ts w) (length ws) small) i j q e f)

-- the number of the name that is found
least_from : (ts : List Name) (w : Name) (n k : ℕ) → ((j : ℕ) → j < k → is_taken ts (with_suffix w j) ≡ true)
    → (m : ℕ) × (free_from ts w n k ≡ with_suffix w m) × ((j : ℕ) → j < m → is_taken ts (with_suffix w j) ≡ true)
least_from ts w zero k h = (k, refl, h)
least_from ts w (suc n) k h = go (is_taken ts (with_suffix w k)) refl (least_from ts w n (k + 1))
  where
    go : (b : Bool) → is_taken ts (with_suffix w k) ≡ b
        → (((j : ℕ) → j < k + 1 → is_taken ts (with_suffix w j) ≡ true) → (m : ℕ) × (free_from ts w n (k + 1) ≡ with_suffix w m) × ((j : ℕ) → j < m → is_taken ts (with_suffix w j) ≡ true))
        → (m : ℕ) × (cond b (free_from ts w n (k + 1)) (with_suffix w k) ≡ with_suffix w m) × ((j : ℕ) → j < m → is_taken ts (with_suffix w j) ≡ true)
    go true t rest = rest (all_below ts w k t h)
    go false t rest = (k, refl, h)

pub name_least : (ts : List Name) (w : Name) → is_taken ts w ≡ true
    → (m : ℕ) × (free_name ts w ≡ with_suffix w m) × ((j : ℕ) → j < m → is_taken ts (with_suffix w j) ≡ true)
name_least ts w t =
    let found = least_from ts w (length ts) 0 (λ j lt. absurd (omega (arith, lt))) in
    (found.0, name_suffixed ts w t ∙ found.1, found.2)
