-- The marks of what some list of a graph in code names.
use Rattle.std.proofs.Common.{◌≡◌, ◌⊎◌, ℕ, ◌+◌, ◌<◌, ◌≤◌, Bool, true, false, List, ◌++◌, length, get_or, take, drop, replicate, sym, ap, subst, ◌∙◌, inl, inr, arith}
use Rattle.wiring.specs.Wiring.{In}
use Rattle.graphs.specs.Graphs.{lists_of, edges, has_mark}
use Rattle.graphs.specs.Marks.{MarksAll}
use Rattle.graphs.specs.declared.graph.NodeList.{NodeList}
use Rattle.graphs.proofs.Lists.{written_back}
use Rattle.graphs.proofs.Marking.{lists_at, length-lists, none_marked, edges_within}
use Rattle.design_cycles.specs.Graphs.{AreCalled}

-- what the nodes before a position need has its mark
pub record HasCalled (graph : List NodeList) (i : ℕ) (marks : List Bool) : Type 0 where
  pub count : length marks ≡ length graph
  pub sound : (v : ℕ) → has_mark marks v ≡ true → (k : ℕ) × In v (edges (lists_of graph) k)
  pub all : (k v : ℕ) → k < i → In v (edges (lists_of graph) k) → v < length (lists_of graph) → has_mark marks v ≡ true

pub calls_none : (graph : List NodeList) (n : ℕ) (marks : List Bool) → length marks ≡ length graph → marks ≡ replicate n false → HasCalled graph 0 marks
calls_none graph n marks count fresh = record {
  count = count;
  sound = λ v is. let none : has_mark marks v ≡ false = ap (λ ms. has_mark ms v) fresh ∙ none_marked n v in cc;
  all = λ k v lower here within. absurd (omega arith);
}

module _ (graph : List NodeList) (old new : List Bool) (n : ℕ) (size : n ≡ length old) (same : length new ≡ length old) where
  pub calls_more : (i : ℕ) (x : NodeList) (nodes : List ℕ) (lent : List Bool) (waited waiting : List ℕ) → i < length graph → x ≡ get_or graph i x → nodes ≡ x.nodes.items → lent ≡ old
      → HasCalled graph i old → MarksAll nodes lent new waited waiting → HasCalled graph (i + 1) (take n (new ++ drop (length new) old))
  calls_more i x nodes lent waited waiting below is are lent_is before all =
      rw (written_back n new old size same) (record {
        count = same ∙ before.count;
        sound = λ v mark. sound v (all'.cases v mark);
        all = λ k v lower here within. go k v (grind arith) here within;
      })
    where
      all' : MarksAll nodes old new waited waiting
      all' = subst (λ ms. MarksAll nodes ms new waited waiting) lent_is all

      nodes_are : nodes ≡ edges (lists_of graph) i
      nodes_are = are ∙ ap (λ (y : NodeList). y.nodes.items) is ∙ sym (lists_at graph i x below)

      sound : (v : ℕ) → (has_mark old v ≡ true) ⊎ (In v nodes × In v waiting) → (k : ℕ) × In v (edges (lists_of graph) k)
      sound v (inl had) = before.sound v had
      sound v (inr both) = (i, subst (In v) nodes_are both.0)

      go : (k v : ℕ) → (k < i) ⊎ (k ≡ i) → In v (edges (lists_of graph) k) → v < length (lists_of graph) → has_mark new v ≡ true
      go k v (inl lower) here within = all'.kept v (before.all k v lower here within)
      go k v (inr equal) here within =
          all'.all v (subst (In v) (sym nodes_are) (subst (λ m. In v (edges (lists_of graph) m)) equal here))
          (let count : length old ≡ length graph = before.count in let whole : length (lists_of graph) ≡ length graph = length-lists graph in omega arith)

pub calls_end : (graph : List NodeList) (marks : List Bool) (i : ℕ) → length graph ≤ i → HasCalled graph i marks → AreCalled (lists_of graph) marks
calls_end graph marks i all has = record {
  count = has.count ∙ sym (length-lists graph);
  sound = has.sound;
  all = λ k v here within. has.all k v (let below : k < length (lists_of graph) = edges_within (lists_of graph) k v here in let whole : length (lists_of graph) ≡ length graph = length-lists graph in omega arith) here within;
}
