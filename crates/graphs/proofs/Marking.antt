-- Marks of nodes: what a pass does, node by node, and what a search keeps.
use Rattle.std.proofs.Common.{◌≡◌, ◌⊎◌, ◌↔◌, ℕ, zero, suc, ◌+◌, ◌<◌, ◌≢◌, Bool, true, false, eqb, List, [], ◌∷◌, ◌++◌, length, get_or, set, take, drop, replicate, IsTrue, refl, sym, ap, subst, ◌∙◌, inl, inr, arith, length-set, length-append}
use Rattle.std.proofs.lemmas.List.{length-map, get_or-set_same, get_or-set_other, take_more}
use Rattle.std.proofs.lemmas.Bool.{eqb-true, eqb-false}
use Rattle.wiring.specs.Wiring.{In, Chain}
use Rattle.wiring.proofs.Members.{In-append_left, In-append_right, In-append_cases}
use Rattle.wiring.proofs.Chains.{Chain-append}
use Rattle.graphs.specs.Graphs.{lists_of, edges, has_mark, AreReached}
use Rattle.graphs.specs.declared.graph.NodeList.{NodeList}
use Rattle.graphs.specs.Marks.{open_count, MarksAll}
use Rattle.graphs.proofs.Lists.{written_back}

-- ---- one mark

pub marked_within : (ms : List Bool) (v : ℕ) → has_mark ms v ≡ true → v < length ms
marked_within [] v is = cc
marked_within (m ∷ ms) zero is = omega arith
marked_within (m ∷ ms) (suc v) is = let rest : v < length ms = marked_within ms v is in omega arith

pub marked_same : (ms : List Bool) (v : ℕ) → v < length ms → has_mark (set ms v true) v ≡ true
marked_same ms v below = get_or-set_same ms v true false below

pub marked_other : (ms : List Bool) (v w : ℕ) → w ≢ v → has_mark (set ms v true) w ≡ has_mark ms w
marked_other ms v w other = get_or-set_other ms v w true false other

-- a mark that is set keeps the others
pub marked_kept : (ms : List Bool) (v w : ℕ) → v < length ms → has_mark ms w ≡ true → has_mark (set ms v true) w ≡ true
marked_kept ms v w below is = go (eqb w v) refl
  where
    go : (b : Bool) → eqb w v ≡ b → has_mark (set ms v true) w ≡ true
    go true e = ap (has_mark (set ms v true)) (eqb-true w v e) ∙ marked_same ms v below
    go false e = marked_other ms v w (eqb-false w v e) ∙ is

pub marked_cases : (ms : List Bool) (v w : ℕ) → has_mark (set ms v true) w ≡ true → (w ≡ v) ⊎ (has_mark ms w ≡ true)
marked_cases ms v w is = go (eqb w v) refl
  where
    go : (b : Bool) → eqb w v ≡ b → (w ≡ v) ⊎ (has_mark ms w ≡ true)
    go true e = inl (eqb-true w v e)
    go false e = inr (sym (marked_other ms v w (eqb-false w v e)) ∙ is)

pub open_fewer : (ms : List Bool) (v : ℕ) → v < length ms → has_mark ms v ≡ false → suc (open_count (set ms v true)) ≡ open_count ms
open_fewer [] v below is = absurd (omega arith)
open_fewer (m ∷ ms) zero below is = let e : m ≡ false = is in rw e refl
open_fewer (true ∷ ms) (suc v) below is = open_fewer ms v (omega arith) is
open_fewer (false ∷ ms) (suc v) below is = ap suc (open_fewer ms v (omega arith) is)

-- ---- a pass over nodes

pub marks_none : (ms : List Bool) (ws : List ℕ) → MarksAll [] ms ms ws ws
marks_none ms ws = record {
  count = refl;
  kept = λ b is. is;
  cases = λ b is. inl is;
  all = λ b here below. absurd here;
  waits = λ b here. here;
  comes = λ b here. inl here;
  size = refl;
}

module _ (xs : List ℕ) (x : ℕ) (old new : List Bool) (waited waiting : List ℕ) (marks : MarksAll xs old new waited waiting) where
  -- a node that is not there, or has its mark
  pub marks_skip : ((x < length new) × (has_mark new x ≡ false) → ⊥) → MarksAll (xs ++ x ∷ []) old new waited waiting
  marks_skip closed = record {
    count = marks.count;
    kept = marks.kept;
    cases = λ b is. from b (marks.cases b is);
    all = λ b here below. go b below (In-append_cases b xs (x ∷ []) here);
    waits = marks.waits;
    comes = marks.comes;
    size = marks.size;
  }
    where
      from : (b : ℕ) → (has_mark old b ≡ true) ⊎ (In b xs × In b waiting) → (has_mark old b ≡ true) ⊎ (In b (xs ++ x ∷ []) × In b waiting)
      from b (inl is) = inl is
      from b (inr both) = inr (In-append_left b xs (x ∷ []) both.0, both.1)

      mark : x < length old → (b : Bool) → has_mark new x ≡ b → has_mark new x ≡ true
      mark below true is = is
      mark below false is = absurd (closed (subst (λ n. x < n) (sym marks.count) below, is))

      go : (b : ℕ) → b < length old → In b xs ⊎ In b (x ∷ []) → has_mark new b ≡ true
      go b below (inl here) = marks.all b here below
      go b below (inr (inl same)) = ap (has_mark new) same ∙ mark (subst (λ n. n < length old) same below) (has_mark new x) refl
      go b below (inr (inr never)) = absurd never

  -- a node that is there and has no mark
  pub marks_mark : x < length new → has_mark new x ≡ false → MarksAll (xs ++ x ∷ []) old (set new x true) waited (waiting ++ x ∷ [])
  marks_mark below is = record {
    count = length-set new x true ∙ marks.count;
    kept = λ b had. marked_kept new x b below (marks.kept b had);
    cases = λ b has. from b (marked_cases new x b has);
    all = λ b here there. go b there (In-append_cases b xs (x ∷ []) here);
    waits = λ b here. In-append_left b waiting (x ∷ []) (marks.waits b here);
    comes = λ b here. comes b (In-append_cases b waiting (x ∷ []) here);
    size =
        let fewer : suc (open_count (set new x true)) ≡ open_count new = open_fewer new x below is in
        let longer : length (waiting ++ x ∷ []) ≡ length waiting + 1 = length-append waiting (x ∷ []) in
        let same : open_count new + length waiting ≡ open_count old + length waited = marks.size in
        omega arith;
  }
    where
      from : (b : ℕ) → (b ≡ x) ⊎ (has_mark new b ≡ true) → (has_mark old b ≡ true) ⊎ (In b (xs ++ x ∷ []) × In b (waiting ++ x ∷ []))
      from b (inl same) = inr (In-append_right b xs (x ∷ []) (inl same), In-append_right b waiting (x ∷ []) (inl same))
      from b (inr had) = before (marks.cases b had)
        where
          before : (has_mark old b ≡ true) ⊎ (In b xs × In b waiting) → (has_mark old b ≡ true) ⊎ (In b (xs ++ x ∷ []) × In b (waiting ++ x ∷ []))
          before (inl was) = inl was
          before (inr both) = inr (In-append_left b xs (x ∷ []) both.0, In-append_left b waiting (x ∷ []) both.1)

      go : (b : ℕ) → b < length old → In b xs ⊎ In b (x ∷ []) → has_mark (set new x true) b ≡ true
      go b there (inl here) = marked_kept new x b below (marks.all b here there)
      go b there (inr (inl same)) = ap (has_mark (set new x true)) same ∙ marked_same new x below
      go b there (inr (inr never)) = absurd never

      comes : (b : ℕ) → In b waiting ⊎ In b (x ∷ []) → In b waited ⊎ ((b < length old) × (has_mark (set new x true) b ≡ true))
      comes b (inl here) = before (marks.comes b here)
        where
          before : In b waited ⊎ ((b < length old) × (has_mark new b ≡ true)) → In b waited ⊎ ((b < length old) × (has_mark (set new x true) b ≡ true))
          before (inl was) = inl was
          before (inr both) = inr (both.0, marked_kept new x b below both.1)
      comes b (inr (inl same)) =
          inr (subst (λ n. b < n) marks.count (subst (λ n. n < length new) (sym same) below), ap (has_mark (set new x true)) same ∙ marked_same new x below)
      comes b (inr (inr never)) = absurd never

-- the same in a list of which so many are done
module _ (nodes : List ℕ) (i : ℕ) (below : i < length nodes) (old new : List Bool) (waited waiting : List ℕ)
    (marks : MarksAll (take i nodes) old new waited waiting) (answer : Bool) (says : IsTrue answer ↔ ((get_or nodes i 0 < length new) × (has_mark new (get_or nodes i 0) ≡ false))) where
  pub pass_skip : (marks' : List Bool) (waiting' : List ℕ) → answer ≡ false → marks' ≡ new → waiting' ≡ waiting → MarksAll (take (i + 1) nodes) old marks' waited waiting'
  pass_skip marks' waiting' denied same also =
      rw (take_more nodes i 0 below, same, also)
      (marks_skip (take i nodes) (get_or nodes i 0) old new waited waiting marks (λ both. let said : answer ≡ true = says.1 both in cc))

  pub pass_mark : (marks' : List Bool) (waiting' : List ℕ) → answer ≡ true → marks' ≡ set new (get_or nodes i 0) true → waiting' ≡ waiting ++ get_or nodes i 0 ∷ []
      → MarksAll (take (i + 1) nodes) old marks' waited waiting'
  pass_mark marks' waiting' given same also =
      rw (take_more nodes i 0 below, same, also)
      (marks_mark (take i nodes) (get_or nodes i 0) old new waited waiting marks (says.0 given).0 (says.0 given).1)

-- ---- a search

-- what a node leads to, of a graph in code
pub lists_at : (graph : List NodeList) (v : ℕ) (n : NodeList) → v < length graph → edges (lists_of graph) v ≡ (get_or graph v n).nodes.items
lists_at [] v n below = absurd (omega arith)
lists_at (x ∷ xs) zero n below = refl
lists_at (x ∷ xs) (suc v) n below = lists_at xs v n (omega arith)

pub length-lists : (graph : List NodeList) → length (lists_of graph) ≡ length graph
length-lists graph = length-map graph (λ (n : NodeList). n.nodes.items)

pub none_marked : (n v : ℕ) → has_mark (replicate n false) v ≡ false
none_marked zero v = refl
none_marked (suc n) zero = refl
none_marked (suc n) (suc v) = none_marked n v

-- what a search from the starts keeps: what is marked is reached, and all that a marked node leads to is marked or waits
pub record IsSearching (lists : List (List ℕ)) (starts : List ℕ) (marks : List Bool) (waiting : List ℕ) : Type 0 where
  pub count : length marks ≡ length lists
  pub sound : (b : ℕ) → has_mark marks b ≡ true → (a : ℕ) × (k : ℕ) × In a starts × Chain (edges lists) k a b
  pub begun : (a : ℕ) → In a starts → a < length lists → has_mark marks a ≡ true
  pub closed : (a : ℕ) → has_mark marks a ≡ true → In a waiting ⊎ ((t : ℕ) → In t (edges lists a) → t < length lists → has_mark marks t ≡ true)
  pub within : (a : ℕ) → In a waiting → (a < length lists) × (has_mark marks a ≡ true)

all_open : (n : ℕ) (ms : List Bool) (b : ℕ) → ((v : ℕ) → has_mark ms v ≡ false) → has_mark ms b ≡ true → ⊥
all_open n ms b none is = let e : has_mark ms b ≡ false = none b in cc

pub search_begins : (lists : List (List ℕ)) (starts : List ℕ) (fresh marks : List Bool) (waiting : List ℕ) → length fresh ≡ length lists
    → ((v : ℕ) → has_mark fresh v ≡ false) → MarksAll starts fresh marks [] waiting → IsSearching lists starts marks waiting
search_begins lists starts fresh marks waiting size none all = record {
  count = all.count ∙ size;
  sound = λ b is. from b (all.cases b is);
  begun = λ a here below. all.all a here (subst (λ n. a < n) (sym size) below);
  closed = λ a is. waits a (all.cases a is);
  within = λ a here. inside a (all.comes a here);
}
  where
    from : (b : ℕ) → (has_mark fresh b ≡ true) ⊎ (In b starts × In b waiting) → (a : ℕ) × (k : ℕ) × In a starts × Chain (edges lists) k a b
    from b (inl was) = absurd (all_open 0 fresh b none was)
    from b (inr both) = (b, 0, both.0, refl)

    waits : (a : ℕ) → (has_mark fresh a ≡ true) ⊎ (In a starts × In a waiting) → In a waiting ⊎ ((t : ℕ) → In t (edges lists a) → t < length lists → has_mark marks t ≡ true)
    waits a (inl was) = absurd (all_open 0 fresh a none was)
    waits a (inr both) = inl both.1

    inside : (a : ℕ) → In a [] ⊎ ((a < length fresh) × (has_mark marks a ≡ true)) → (a < length lists) × (has_mark marks a ≡ true)
    inside a (inl never) = absurd never
    inside a (inr both) = (subst (λ n. a < n) size both.0, both.1)

pub search_goes : (lists : List (List ℕ)) (starts : List ℕ) (old new : List Bool) (rest waiting : List ℕ) (v : ℕ)
    → IsSearching lists starts old (rest ++ v ∷ []) → MarksAll (edges lists v) old new rest waiting → IsSearching lists starts new waiting
search_goes lists starts old new rest waiting v s all = record {
  count = all.count ∙ s.count;
  sound = λ b is. from b (all.cases b is);
  begun = λ a here below. all.kept a (s.begun a here below);
  closed = λ a is. closed a (all.cases a is);
  within = λ a here. inside a (all.comes a here);
}
  where
    last : In v (rest ++ v ∷ [])
    last = In-append_right v rest (v ∷ []) (inl refl)

    from : (b : ℕ) → (has_mark old b ≡ true) ⊎ (In b (edges lists v) × In b waiting) → (a : ℕ) × (k : ℕ) × In a starts × Chain (edges lists) k a b
    from b (inl was) = s.sound b was
    from b (inr both) =
        let before = s.sound v (s.within v last).1 in
        (before.0, before.1 + 1, before.2, Chain-append (edges lists) before.1 1 before.0 v b before.3 (b, both.0, refl))

    closed : (a : ℕ) → (has_mark old a ≡ true) ⊎ (In a (edges lists v) × In a waiting) → In a waiting ⊎ ((t : ℕ) → In t (edges lists a) → t < length lists → has_mark new t ≡ true)
    closed a (inr both) = inl both.1
    closed a (inl was) = before (s.closed a was)
      where
        popped : In a rest ⊎ In a (v ∷ []) → In a waiting ⊎ ((t : ℕ) → In t (edges lists a) → t < length lists → has_mark new t ≡ true)
        popped (inl here) = inl (all.waits a here)
        popped (inr (inl same)) = inr (λ t need below. all.all t (subst (λ z. In t (edges lists z)) same need) (subst (λ n. t < n) (sym s.count) below))
        popped (inr (inr never)) = absurd never

        before : In a (rest ++ v ∷ []) ⊎ ((t : ℕ) → In t (edges lists a) → t < length lists → has_mark old t ≡ true)
            → In a waiting ⊎ ((t : ℕ) → In t (edges lists a) → t < length lists → has_mark new t ≡ true)
        before (inl here) = popped (In-append_cases a rest (v ∷ []) here)
        before (inr done) = inr (λ t need below. all.kept t (done t need below))

    inside : (a : ℕ) → In a rest ⊎ ((a < length old) × (has_mark new a ≡ true)) → (a < length lists) × (has_mark new a ≡ true)
    inside a (inl here) =
        let was = s.within a (In-append_left a rest (v ∷ []) here) in (was.0, all.kept a was.1)
    inside a (inr both) = (subst (λ n. a < n) s.count both.0, both.1)

-- what leads to something is there
pub edges_within : (lists : List (List ℕ)) (v t : ℕ) → In t (edges lists v) → v < length lists
edges_within [] v t here = absurd here
edges_within (l ∷ ls) zero t here = omega arith
edges_within (l ∷ ls) (suc v) t here = let rest : v < length ls = edges_within ls v t here in omega arith

-- so is what leads to a node that is there
pub chain_within : (lists : List (List ℕ)) (k a b : ℕ) → Chain (edges lists) k a b → b < length lists → a < length lists
chain_within lists zero a b same below = subst (λ n. n < length lists) (sym same) below
chain_within lists (suc k) a b (c, need, chain) below = edges_within lists a c need

pub search_ends : (lists : List (List ℕ)) (starts : List ℕ) (marks : List Bool) → IsSearching lists starts marks [] → AreReached lists starts marks
search_ends lists starts marks s = record {
  count = s.count;
  sound = s.sound;
  complete = λ a k b here chain below. follow k a b (s.begun a here (chain_within lists k a b chain below)) chain below;
}
  where
    follow : (k a b : ℕ) → has_mark marks a ≡ true → Chain (edges lists) k a b → b < length lists → has_mark marks b ≡ true
    follow zero a b is same below = ap (has_mark marks) (sym same) ∙ is
    follow (suc k) a b is (c, need, chain) below = follow k c b (go (s.closed a is)) chain below
      where
        go : In a [] ⊎ ((t : ℕ) → In t (edges lists a) → t < length lists → has_mark marks t ≡ true) → has_mark marks c ≡ true
        go (inl never) = absurd never
        go (inr done) = done c need (chain_within lists k c b chain below)

-- the same of a search in code, whose marks are written back to their list
module _ (graph : List NodeList) (starts : List ℕ) (old new : List Bool) (n : ℕ) (size : n ≡ length old) (same : length new ≡ length old) where
  pub searching_begins : (n' : ℕ) (lent : List Bool) (waited waiting : List ℕ) → length old ≡ length graph → old ≡ replicate n' false → waited ≡ [] → lent ≡ old
      → MarksAll starts lent new waited waiting → IsSearching (lists_of graph) starts (take n (new ++ drop (length new) old)) waiting
  searching_begins n' lent waited waiting count fresh none is all =
      rw (written_back n new old size same)
      (search_begins (lists_of graph) starts old new waiting (count ∙ sym (length-lists graph)) (λ v. ap (λ ms. has_mark ms v) fresh ∙ none_marked n' v)
      (subst (λ ws. MarksAll starts old new ws waiting) none (subst (λ ms. MarksAll starts ms new waited waiting) is all)))

  pub searching_goes : (nodes : List ℕ) (lent : List Bool) (waited rest waiting : List ℕ) (v : ℕ) (x : NodeList) → v < length graph → nodes ≡ (get_or graph v x).nodes.items → lent ≡ old
      → waited ≡ rest ++ v ∷ [] → IsSearching (lists_of graph) starts old waited → MarksAll nodes lent new rest waiting
      → IsSearching (lists_of graph) starts (take n (new ++ drop (length new) old)) waiting
  searching_goes nodes lent waited rest waiting v x below are is popped search all =
      rw (written_back n new old size same)
      (search_goes (lists_of graph) starts old new rest waiting v (subst (IsSearching (lists_of graph) starts old) popped search)
      (subst (λ ns. MarksAll ns old new rest waiting) (are ∙ sym (lists_at graph v x below)) (subst (λ ms. MarksAll nodes ms new rest waiting) is all)))
