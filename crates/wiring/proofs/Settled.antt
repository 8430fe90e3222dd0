-- Exactly one map is settled where each net has a depth, which all chains from it stay below; and induction along needs.
use Rattle.std.proofs.Common.{◌≡◌, ℕ, zero, suc, ◌+◌, ◌≤◌, List, [], length, map, refl, sym, ap, ◌∙◌, arith}
use Rattle.wiring.specs.Wiring.{In, Chain, IsAcyclic, IsWithin, FallsAlong, Settled, SettlesOnce}
use Rattle.wiring.proofs.Members.{map_same}
use Rattle.wiring.proofs.Chains.{Chain-le, Chain-falls}

module _ {A : Type 0} (needs : A → List A) where
  -- each chain from a has fewer than n steps
  abbrev pub EndsBefore : ℕ → A → Type 0
  EndsBefore n a = (b : A) → Chain needs n a b → ⊥

  pub EndsBefore-needed : (n : ℕ) (a b : A) → EndsBefore (suc n) a → In b (needs a) → EndsBefore n b
  EndsBefore-needed n a b ends need c chain = ends c (b, need, chain)

  -- where no net needs itself, a chain has at most as many steps as there are nets that have needs
  pub EndsBefore-within : (nets : List A) → IsWithin needs nets → IsAcyclic needs → (a : A) → EndsBefore (suc (length nets)) a
  EndsBefore-within nets within acyclic a b chain =
      let bound : suc (length nets) ≤ length nets = Chain-le needs nets within acyclic (suc (length nets)) a b chain in
      absurd (omega arith)

  -- where numbers fall along needs, a chain has at most as many steps as the number of its first net
  pub EndsBefore-falling : (h : A → ℕ) → FallsAlong needs h → (a : A) → EndsBefore (suc (h a)) a
  EndsBefore-falling h falls a b chain =
      let bound : h b + suc (h a) ≤ h a = Chain-falls needs h falls (suc (h a)) a b chain in
      absurd (omega arith)

  -- induction along needs, below a depth
  by_depth : (P : A → Type 0) → ((a : A) → ((b : A) → In b (needs a) → P b) → P a) → (n : ℕ) (a : A) → EndsBefore n a → P a
  by_depth P step zero a ends = absurd (ends a refl)
  by_depth P step (suc n) a ends =
      step a (λ b need. by_depth P step n b (EndsBefore-needed n a b ends need))

  -- induction along needs: what holds of a net where it holds of all that the net needs holds of each net
  pub by_needs : (P : A → Type 0) → ((a : A) → ((b : A) → In b (needs a) → P b) → P a)
      → (nets : List A) → IsWithin needs nets → IsAcyclic needs → (a : A) → P a
  by_needs P step nets within acyclic a = by_depth P step (suc (length nets)) a (EndsBefore-within nets within acyclic a)

  -- the same by numbers that fall along needs
  pub by_falling : (P : A → Type 0) → ((a : A) → ((b : A) → In b (needs a) → P b) → P a)
      → (h : A → ℕ) → FallsAlong needs h → (a : A) → P a
  by_falling P step h falls a = by_depth P step (suc (h a)) a (EndsBefore-falling h falls a)

module _ {A V : Type 0} (needs : A → List A) (value : A → List V → V) where
  -- the value of a net when chains are followed for n steps
  abbrev value_at : ℕ → A → V
  value_at zero a = value a []
  value_at (suc n) a = value a (map (value_at n) (needs a))

  -- each settled map has this value
  settled_at : (σ : A → V) → Settled needs value σ → (n : ℕ) (a : A) → EndsBefore needs n a → σ a ≡ value_at n a
  settled_at σ settled zero a ends = absurd (ends a refl)
  settled_at σ settled (suc n) a ends =
      settled a ∙ ap (value a) (map_same σ (value_at n) (needs a) (λ b need. settled_at σ settled n b (EndsBefore-needed needs n a b ends need)))

  -- deep enough, the value does not change with the depth
  steady : (m n : ℕ) (a : A) → EndsBefore needs m a → EndsBefore needs n a → value_at m a ≡ value_at n a
  steady zero n a ends also = absurd (ends a refl)
  steady (suc m) zero a ends also = absurd (also a refl)
  steady (suc m) (suc n) a ends also =
      ap (value a) (map_same (value_at m) (value_at n) (needs a)
      (λ b need. steady m n b (EndsBefore-needed needs m a b ends need) (EndsBefore-needed needs n a b also need)))

  module _ (depth : A → ℕ) (ends : (a : A) → EndsBefore needs (depth a) a) where
    at_depth : (n : ℕ) (a : A) → EndsBefore needs n a → value_at n a ≡ value a (map (λ b. value_at (depth b) b) (needs a))
    at_depth zero a below = absurd (below a refl)
    at_depth (suc n) a below =
        ap (value a) (map_same (value_at n) (λ b. value_at (depth b) b) (needs a)
        (λ b need. steady n (depth b) b (EndsBefore-needed needs n a b below need) (ends b)))

    -- exactly one map is settled where each net has a depth
    settles_by : SettlesOnce needs value
    settles_by = (
      (λ a. value_at (depth a) a),
      (λ a. at_depth (depth a) a (ends a)),
      (λ σ settled a. settled_at σ settled (depth a) a (ends a)),
    )

  -- exactly one map is settled where no net needs itself and the nets that have needs stand in a list
  pub settles_once : (nets : List A) → IsWithin needs nets → IsAcyclic needs → SettlesOnce needs value
  settles_once nets within acyclic = settles_by (λ a. suc (length nets)) (EndsBefore-within needs nets within acyclic)

  -- exactly one map is settled where numbers fall along needs
  pub settles_along : (h : A → ℕ) → FallsAlong needs h → SettlesOnce needs value
  settles_along h falls = settles_by (λ a. suc (h a)) (EndsBefore-falling needs h falls)

  -- two maps are equal where both are settled
  pub settled_alike : SettlesOnce needs value → (σ τ : A → V) → Settled needs value σ → Settled needs value τ → (a : A) → σ a ≡ τ a
  settled_alike once σ τ first second a = once.2 σ first a ∙ sym (once.2 τ second a)

  -- a map that has the values of a settled one is settled
  pub Settled-same : (ρ σ : A → V) → ((a : A) → σ a ≡ ρ a) → Settled needs value ρ → Settled needs value σ
  Settled-same ρ σ same settled a =
      same a ∙ settled a ∙ ap (value a) (map_same ρ σ (needs a) (λ b need. sym (same b)))
