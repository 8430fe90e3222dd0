-- Sums over all edges.
use Rattle.std.proofs.Common.{◌≡◌, ◌≢◌, ℕ, zero, suc, ◌+◌, ◌*◌, ◌<◌, ◌≤◌, ◌⊎◌, List, [], ◌∷◌, length, ◌∙◌, inl, inr, arith, suc-mul}
use Rattle.sched_core.specs.Sums.{sum_below}
use Rattle.sched_core.specs.State.{callees_of, IsEdge}
use Rattle.sched_core.specs.Counts.{sum_edges}
use Rattle.sched_core.proofs.SumLemmas.{sum_below-same, sum_below-changed, sum_below-none, sum_below-add, none_of_sum}

-- only modules have edges
pub edge_within : (callees : List (List ℕ)) (c i : ℕ) → IsEdge callees c i → c < length callees
edge_within [] c i edge = absurd (omega arith)
edge_within (row ∷ rest) zero i edge = omega arith
edge_within (row ∷ rest) (suc c) i edge = let below : c < length rest = edge_within rest c i edge in omega arith

module _ (callees : List (List ℕ)) where
  pub sum_edges-same : (f g : ℕ → ℕ → ℕ) → ((c i : ℕ) → IsEdge callees c i → f c i ≡ g c i) → sum_edges callees f ≡ sum_edges callees g
  sum_edges-same f g same =
      sum_below-same (length callees) (λ c. sum_below (length (callees_of callees c)) (f c)) (λ c. sum_below (length (callees_of callees c)) (g c))
      (λ c below. sum_below-same (length (callees_of callees c)) (f c) (g c) (λ i edge. same c i edge))

  -- what a change at one edge does to the sum
  pub sum_edges-changed : (f g : ℕ → ℕ → ℕ) (c i : ℕ) → IsEdge callees c i → ((a b : ℕ) → (a ≢ c) ⊎ (b ≢ i) → g a b ≡ f a b)
      → sum_edges callees g + f c i ≡ sum_edges callees f + g c i
  sum_edges-changed f g c i edge others =
      let rows : ℕ → (ℕ → ℕ → ℕ) → ℕ = λ a h. sum_below (length (callees_of callees a)) (h a) in
      let outer : sum_edges callees g + rows c f ≡ sum_edges callees f + rows c g =
      sum_below-changed (length callees) (λ a. rows a f) (λ a. rows a g) c (edge_within callees c i edge)
      (λ a other. sum_below-same (length (callees_of callees a)) (g a) (f a) (λ b below. others a b (inl other))) in
      let inner : rows c g + f c i ≡ rows c f + g c i =
      sum_below-changed (length (callees_of callees c)) (f c) (g c) i edge (λ b other. others c b (inr other)) in
      omega arith

  pub sum_edges-add : (f g : ℕ → ℕ → ℕ) → sum_edges callees (λ c i. f c i + g c i) ≡ sum_edges callees f + sum_edges callees g
  sum_edges-add f g =
      sum_below-same (length callees) (λ c. sum_below (length (callees_of callees c)) (λ i. f c i + g c i))
      (λ c. sum_below (length (callees_of callees c)) (f c) + sum_below (length (callees_of callees c)) (g c))
      (λ c below. sum_below-add (length (callees_of callees c)) (f c) (g c))
      ∙ sum_below-add (length callees) (λ c. sum_below (length (callees_of callees c)) (f c)) (λ c. sum_below (length (callees_of callees c)) (g c))

  pub sum_edges-none : (f : ℕ → ℕ → ℕ) → ((c i : ℕ) → IsEdge callees c i → f c i ≡ 0) → sum_edges callees f ≡ 0
  sum_edges-none f none =
      sum_below-none (length callees) (λ c. sum_below (length (callees_of callees c)) (f c))
      (λ c below. sum_below-none (length (callees_of callees c)) (f c) (λ i edge. none c i edge))

  -- a sum of zero has no other term
  pub none_of_edges : (f : ℕ → ℕ → ℕ) → sum_edges callees f ≡ 0 → (c i : ℕ) → IsEdge callees c i → f c i ≡ 0
  none_of_edges f zero_sum c i edge =
      none_of_sum (length (callees_of callees c)) (f c)
      (none_of_sum (length callees) (λ a. sum_below (length (callees_of callees a)) (f a)) zero_sum c (edge_within callees c i edge)) i edge

-- a sum of terms that are at most b
pub sum_below-le_each : (n b : ℕ) (f : ℕ → ℕ) → ((k : ℕ) → k < n → f k ≤ b) → sum_below n f ≤ n * b
sum_below-le_each zero b f bound = omega arith
sum_below-le_each (suc n) b f bound =
    let prefix : sum_below n f ≤ n * b = sum_below-le_each n b f (λ k below. bound k (omega arith)) in
    let end : f n ≤ b = bound n (omega arith) in
    let more : suc n * b ≡ n * b + b = suc-mul n b in
    omega arith
