-- The definitions at small wirings: a tree of three nets, a loop with no settled map, and a loop with more than one.
use Rattle.std.proofs.Common.{◌≡◌, ℕ, zero, suc, ◌+◌, List, [], ◌∷◌, map, refl, inl, arith}
use Rattle.wiring.specs.Lists.{total}
use Rattle.wiring.specs.Wiring.{greatest, IsAcyclic, HasHeights, Settled, SettlesOnce}
use Rattle.wiring.proofs.Heights.{settles}

-- net 0 needs none, net 1 needs net 0 twice, and each other net needs nets 1 and 0
abbrev tree : ℕ → List ℕ
tree zero = []
tree (suc zero) = 0 ∷ 0 ∷ []
tree (suc (suc n)) = 1 ∷ 0 ∷ []

-- net 0 has the value 3, and each other net the sum of what it needs
abbrev sums : ℕ → List ℕ → ℕ
sums zero values = 3
sums (suc n) values = total values

abbrev tree_height : ℕ → ℕ
tree_height zero = 1
tree_height (suc zero) = 2
tree_height (suc (suc n)) = 3

tree_has_heights : HasHeights tree
tree_has_heights = (tree_height, elim [ zero ↦ refl | suc n ↦ above n ])
  where
    above : (n : ℕ) → tree_height (suc n) ≡ suc (greatest (map tree_height (tree (suc n))))
    above zero = refl
    above (suc n) = refl

tree_settles : SettlesOnce tree sums
tree_settles = settles tree sums tree_has_heights

-- in each settled map net 2 has the value 9
tree_value : (ρ : ℕ → ℕ) → Settled tree sums ρ → ρ 2 ≡ 9
tree_value ρ settled =
    let low : ρ 0 ≡ 3 = settled 0 in
    let middle : ρ 1 ≡ ρ 0 + (ρ 0 + 0) = settled 1 in
    let top : ρ 2 ≡ ρ 1 + (ρ 0 + 0) = settled 2 in
    omega arith

-- each net needs itself
abbrev loop : ℕ → List ℕ
loop n = n ∷ []

loop_is_cyclic : IsAcyclic loop → ⊥
loop_is_cyclic acyclic = acyclic 0 (0, (0, inl refl, refl))

-- where a net is one more than itself no map is settled
loop_never_settles : (ρ : ℕ → ℕ) → Settled loop (λ n values. suc (total values)) ρ → ⊥
loop_never_settles ρ settled = let is : ρ 0 ≡ suc (ρ 0 + 0) = settled 0 in absurd (omega arith)

-- where a net is itself every map is settled
loop_settles_often : SettlesOnce loop (λ n values. total values) → ⊥
loop_settles_often once =
    let zeros : 0 ≡ once.0 0 = once.2 (λ n. 0) (λ n. refl) 0 in
    let ones : 1 ≡ once.0 0 = once.2 (λ n. 1) (λ n. refl) 0 in
    absurd (omega arith)
