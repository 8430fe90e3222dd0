-- The slots of modules and of edges are apart.
use Rattle.std.proofs.Common.{◌≡◌, ◌≢◌, ℕ, zero, suc, ◌+◌, ◌<◌, ◌≤◌, ◌⊎◌, List, [], ◌∷◌, length, get_or, set, refl, ap, ◌∙◌, inl, inr, arith}
use Rattle.std.proofs.lemmas.Bool.{cases_eq}
use Rattle.sched_core.specs.Sums.{sum_below}
use Rattle.sched_core.specs.declared.parts.Edge.{Edge}
use Rattle.sched_core.specs.State.{callees_of, IsEdge}
use Rattle.sched_core.proofs.EdgeSums.{edge_within}
use Rattle.sched_core.proofs.Edges.{put_edge, put_edge_cases}
use Rattle.sched_core.proofs.Puts.{put-here}
use Rattle.sched_core.specs.Sums.{put}
use Rattle.shared_schedule.specs.Rule.{edges_below, edge_slot, slots_of}

-- the edges of a caller come before those of later callers
pub edges_below-le : (callees : List (List ℕ)) (c d : ℕ) → c < d → edges_below callees c + length (callees_of callees c) ≤ edges_below callees d
edges_below-le callees c zero below = omega arith
edges_below-le callees c (suc d) below = by_order (λ less. edges_below-le callees c d less) (cases_eq c d)
  where
    by_order : (c < d → edges_below callees c + length (callees_of callees c) ≤ edges_below callees d) → (c ≡ d) ⊎ (c ≢ d)
        → edges_below callees c + length (callees_of callees c) ≤ sum_below d (λ k. length (callees_of callees k)) + length (callees_of callees d)
    by_order before (inl e) = let same : edges_below callees c + length (callees_of callees c)
        ≡ sum_below d (λ k. length (callees_of callees k)) + length (callees_of callees d) = ap (λ k. edges_below callees k + length (callees_of callees k)) e in omega arith
    by_order before (inr ne) = let old : edges_below callees c + length (callees_of callees c) ≤ edges_below callees d = before (omega arith) in omega arith

-- an edge is one of the slots
pub edge_slot-lt : (callees : List (List ℕ)) (c i : ℕ) → IsEdge callees c i → edge_slot callees c i < slots_of callees
edge_slot-lt callees c i at =
    let most : edges_below callees c + length (callees_of callees c) ≤ edges_below callees (length callees) = edges_below-le callees c (length callees) (edge_within callees c i at) in
    let below : i < length (callees_of callees c) = at in
    omega arith

-- no module's
pub edge_slot-past : (callees : List (List ℕ)) (c i m : ℕ) → m < length callees → edge_slot callees c i ≢ m
edge_slot-past callees c i m within same = omega arith

-- two edges are one or differ
pub edge-cases : (c i a b : ℕ) → ((a ≡ c) × (b ≡ i)) ⊎ (a ≡ c → b ≡ i → ⊥)
edge-cases c i a b = by_caller (cases_eq a c) (cases_eq b i)
  where
    by_caller : (a ≡ c) ⊎ (a ≢ c) → (b ≡ i) ⊎ (b ≢ i) → ((a ≡ c) × (b ≡ i)) ⊎ (a ≡ c → b ≡ i → ⊥)
    by_caller (inl e) (inl f) = inl (e, f)
    by_caller (inl e) (inr nf) = inr (λ _ f. nf f)
    by_caller (inr ne) f = inr (λ e _. ne e)

-- edges that differ have slots that differ
pub edge_slot-apart : (callees : List (List ℕ)) (c i a b : ℕ) → IsEdge callees c i → IsEdge callees a b → (a ≡ c → b ≡ i → ⊥) → edge_slot callees a b ≢ edge_slot callees c i
edge_slot-apart callees c i a b at there apart same = by_order (grind arith)
  where
    by_order : (a < c) ⊎ (c < a) ⊎ (a ≡ c) → ⊥
    by_order (inl below) = let le : edges_below callees a + length (callees_of callees a) ≤ edges_below callees c = edges_below-le callees a c below in let in_row : b < length (callees_of callees a) = there in omega arith
    by_order (inr (inl above)) = let le : edges_below callees c + length (callees_of callees c) ≤ edges_below callees a = edges_below-le callees c a above in let in_row : i < length (callees_of callees c) = at in omega arith
    by_order (inr (inr e)) = apart e (let first : edges_below callees a ≡ edges_below callees c = ap (edges_below callees) e in omega arith)

-- the map with another edge at one position
pub put_edge-here : (c i : ℕ) (e : Edge) (edge : ℕ → ℕ → Edge) → put_edge c i e edge c i ≡ e
put_edge-here c i e edge = ap (λ row. row i) (put-here c (put i e (edge c)) edge) ∙ put-here i e (edge c)

pub put_edge-other : (c i : ℕ) (e : Edge) (edge : ℕ → ℕ → Edge) (a b : ℕ) → (a ≡ c → b ≡ i → ⊥) → put_edge c i e edge a b ≡ edge a b
put_edge-other c i e edge a b apart = put_edge_cases (λ x. x ≡ edge a b) c i e edge a b (λ here here'. absurd (apart here here')) refl

-- a list of words in which one is written again
pub set-read : (xs : List ℕ) (k : ℕ) → set xs k (get_or xs k 0) ≡ xs
set-read [] k = refl
set-read (x ∷ xs) zero = refl
set-read (x ∷ xs) (suc k) = ap (λ ys. x ∷ ys) (set-read xs k)
