-- Bodies cannot become smaller for ever: what follows for a body from all smaller ones holds of each body.
use Rattle.std.proofs.Common.{◌≡◌, ℕ, zero, suc, ◌<◌, List, refl, ◌∙◌, inl, inr, arith}
use Rattle.hw_model.specs.Design.{Op}
use Rattle.fold_laws.specs.Fold.{measure, misplaced, IsSmaller}

module _ (P : List Op → Type 0) (each : (os : List Op) → ((os' : List Op) → IsSmaller os' os → P os') → P os) where
  -- of bodies of measure n and fewer than a number of constants before other operands
  by_misplaced : (n p : ℕ) → ((os : List Op) → measure os < n → P os) → (os : List Op) → measure os ≡ n → misplaced os < p → P os
  by_misplaced n zero less os is few = absurd (omega arith)
  by_misplaced n (suc p) less os is few = each os (λ os' smaller. go (λ zs equal low. by_misplaced n p less zs equal low) os' smaller)
    where
      go : ((zs : List Op) → measure zs ≡ n → misplaced zs < p → P zs) → (os' : List Op) → IsSmaller os' os → P os'
      go again os' (inl lower) = less os' (omega arith)
      go again os' (inr (same, fewer)) = again os' (same ∙ is) (omega arith)

  -- of bodies of less than a measure
  by_measure : (n : ℕ) → (os : List Op) → measure os < n → P os
  by_measure zero os low = absurd (omega arith)
  by_measure (suc n) os low = by_misplaced (measure os) (suc (misplaced os)) (λ os' lower. by_measure n os' (omega arith)) os refl (omega arith)

  pub descent : (os : List Op) → P os
  descent os = by_measure (suc (measure os)) os (omega arith)
