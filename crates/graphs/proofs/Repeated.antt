-- Lists of nodes that stand several times, one more after others.
use Rattle.std.proofs.Common.{◌≡◌, ℕ, zero, suc, ◌+◌, List, [], ◌∷◌, ◌++◌, refl, sym, ap, ap₂, ◌∙◌, arith}
use Rattle.std.proofs.lemmas.List.{map-append}
use Rattle.graphs.specs.declared.graph.NodeList.{NodeList}
use Rattle.graphs.specs.Graphs.{lists_of, times_over}

pub times_more : (n : ℕ) (xs : List ℕ) → times_over (n + 1) xs ≡ times_over n xs ++ xs ∷ []
times_more n xs = (let e : n + 1 ≡ suc n = omega arith in ap (λ k. times_over k xs) e) ∙ go n
  where
    go : (k : ℕ) → times_over (suc k) xs ≡ times_over k xs ++ xs ∷ []
    go zero = refl
    go (suc k) = ap (λ ys. xs ∷ ys) (go k)

pub one_more_empty : (graph old : List NodeList) (n : NodeList) (k : ℕ) → lists_of old ≡ times_over k [] → graph ≡ old ++ n ∷ [] → n.nodes.items ≡ [] → lists_of graph ≡ times_over (k + 1) []
one_more_empty graph old n k before grown is =
    ap lists_of grown ∙ map-append (λ (x : NodeList). x.nodes.items) old (n ∷ []) ∙ ap₂ (λ xs y. xs ++ y ∷ []) before is ∙ sym (times_more k [])
