-- A free name is decided by what is taken, whatever the lists are.
use Rattle.std.proofs.Common.{◌≡◌, ◌⊎◌, inl, inr, ℕ, ◌+◌, ◌<◌, ◌≤◌, ◌^◌, Bool, true, false, List, ◌++◌, length, refl, sym, ap, ◌∙◌, true≢false, arith}
use Rattle.std.proofs.lemmas.Bool.{cases_lt}
use Rattle.hw_model.specs.Types.{Name}
use Rattle.fresh_names.specs.Fresh.{is_taken, with_suffix, free_name}
use Rattle.fresh_names.proofs.Free.{name_free, name_stays}
use Rattle.fresh_names.proofs.Giving.{name_least}
use Rattle.name_legalise.proofs.Members.{free_both, taken_after}

-- the least free suffixed name of a taken one is its free name
pub least_is : (ts : List Name) (w : Name) (m : ℕ) → length ts + 1 < 2 ^ 64 → is_taken ts w ≡ true → is_taken ts (with_suffix w m) ≡ false
    → ((k : ℕ) → k < m → is_taken ts (with_suffix w k) ≡ true) → free_name ts w ≡ with_suffix w m
least_is ts w m small t free below = found.1 ∙ ap (with_suffix w) same where
  found : (n : ℕ) × (free_name ts w ≡ with_suffix w n) × ((k : ℕ) → k < n → is_taken ts (with_suffix w k) ≡ true)
  found = name_least ts w t

  found_free : is_taken ts (with_suffix w found.0) ≡ false
  found_free = ap (is_taken ts) (sym found.1) ∙ name_free ts w small

  go : ((found.0 < m) ⊎ (m ≤ found.0)) → ((m < found.0) ⊎ (found.0 ≤ m)) → found.0 ≡ m
  go (inl less) q = absurd (true≢false (sym (below found.0 less) ∙ found_free))
  go (inr p) (inl less) = absurd (true≢false (sym (found.2 m less) ∙ free))
  go (inr p) (inr q) = omega (arith, p, q)

  same : found.0 ≡ m
  same = go (cases_lt found.0 m) (cases_lt m found.0)

-- two lists that take the same names give the same free name
pub name_alike : (ts us : List Name) (w : Name) → length ts + 1 < 2 ^ 64 → length us + 1 < 2 ^ 64 → ((q : Name) → is_taken ts q ≡ is_taken us q)
    → free_name ts w ≡ free_name us w
name_alike ts us w small less same = go (is_taken us w) refl where
  go : (b : Bool) → is_taken us w ≡ b → free_name ts w ≡ free_name us w
  go false e = name_stays ts w (same w ∙ e) ∙ sym (name_stays us w e)
  go true e =
      let found = name_least us w e in
      least_is ts w found.0 small (same w ∙ e) (same (with_suffix w found.0) ∙ ap (is_taken us) (sym found.1) ∙ name_free us w less)
      (λ k lt. same (with_suffix w k) ∙ found.2 k lt)
      ∙ sym found.1

-- a free name that more names do not take either stays the free name
pub name_beyond : (rs ts : List Name) (w : Name) → length ts + 1 < 2 ^ 64 → length (rs ++ ts) + 1 < 2 ^ 64 → is_taken rs (free_name ts w) ≡ false
    → free_name ts w ≡ free_name (rs ++ ts) w
name_beyond rs ts w less small free = go (is_taken ts w) refl where
  go : (b : Bool) → is_taken ts w ≡ b → free_name ts w ≡ free_name (rs ++ ts) w
  go false e =
      let stays = name_stays ts w e in
      stays ∙ sym (name_stays (rs ++ ts) w (free_both rs ts w (ap (is_taken rs) (sym stays) ∙ free) e))
  go true e =
      let found = name_least ts w e in
      let given : is_taken rs (with_suffix w found.0) ≡ false = ap (is_taken rs) (sym found.1) ∙ free in
      let alone : is_taken ts (with_suffix w found.0) ≡ false = ap (is_taken ts) (sym found.1) ∙ name_free ts w less in
      found.1
      ∙ sym (least_is (rs ++ ts) w found.0 small (taken_after rs ts w e) (free_both rs ts (with_suffix w found.0) given alone)
      (λ k lt. taken_after rs ts (with_suffix w k) (found.2 k lt)))
