-- Placing nodes after what they need, pass by pass; and what an order says of cycles.
use Rattle.std.proofs.Common.{◌≡◌, ◌⊎◌, ◌↔◌, ℕ, zero, suc, ◌+◌, ◌<◌, ◌≤◌, Bool, true, false, List, [], ◌∷◌, ◌++◌, length, get_or, set, take, slice_get, drop, replicate, IsTrue, MatchBool, Some, IsPermutation, refl, sym, ap, subst, ◌∙◌, inl, inr, arith, append-nil, length-set, length-append}
use Rattle.std.proofs.lemmas.List.Sorted.{IsPermutation-refl, IsPermutation-trans, IsPermutation-cons, IsPermutation-middle, IsPermutation-pop_more}
use Rattle.std.proofs.lemmas.List.{take_more, take-append-le}
use Rattle.std.proofs.lemmas.Option.{slice_get_within}
use Rattle.wiring.specs.Wiring.{In, Chain, Depends, IsAcyclic, IsWithin}
use Rattle.wiring.proofs.Members.{In-append_left, In-append_right, In-append_cases, position_of_In}
use Rattle.wiring.proofs.Lists.{slice_get-append_left, slice_get-append_at}
use Rattle.wiring.proofs.Chains.{Chain-append, Chain-le}
use Rattle.graphs.specs.declared.graph.NodeList.{NodeList}
use Rattle.graphs.specs.Graphs.{lists_of, edges, has_mark}
use Rattle.graphs.specs.Orders.{numbers_from, open_from, IsOrder, AreMarked, CanBePlaced, MustWait, Placed}
use Rattle.graphs.specs.Marks.{open_count}
use Rattle.graphs.proofs.Lists.{written_back}
use Rattle.graphs.proofs.Marking.{marked_same, marked_kept, marked_cases, open_fewer, edges_within, none_marked, length-lists}

-- ---- whether all have their marks

pub none_needed : (marks : List Bool) → AreMarked [] marks
none_needed marks t here below = absurd here

pub marked_more : (nodes : List ℕ) (i : ℕ) (marks : List Bool) (answer : Bool) → i < length nodes → AreMarked (take i nodes) marks
    → (IsTrue answer ↔ ((get_or nodes i 0 < length marks) × (has_mark marks (get_or nodes i 0) ≡ false))) → answer ≡ false → AreMarked (take (i + 1) nodes) marks
marked_more nodes i marks answer below are says denied t here within =
    go (In-append_cases t (take i nodes) (get_or nodes i 0 ∷ []) (subst (In t) (take_more nodes i 0 below) here))
  where
    mark : (b : Bool) → has_mark marks t ≡ b → t ≡ get_or nodes i 0 → has_mark marks t ≡ true
    mark true is same = is
    mark false is same = let said : answer ≡ true = says.1 (subst (λ n. n < length marks) same within, ap (has_mark marks) (sym same) ∙ is) in cc

    go : In t (take i nodes) ⊎ In t (get_or nodes i 0 ∷ []) → has_mark marks t ≡ true
    go (inl before) = are t before within
    go (inr (inl same)) = mark (has_mark marks t) refl same
    go (inr (inr never)) = absurd never

pub In-at : (nodes : List ℕ) (i : ℕ) → i < length nodes → In (get_or nodes i 0) nodes
In-at [] i below = absurd (omega arith)
In-at (x ∷ xs) zero below = inl refl
In-at (x ∷ xs) (suc i) below = inr (In-at xs i (omega arith))

-- ---- what is open

-- where nothing has a mark
open_all : (ms : List Bool) (start : ℕ) → ((v : ℕ) → has_mark ms v ≡ false) → open_from start ms ≡ numbers_from start (length ms)
open_all [] start none = refl
open_all (m ∷ ms) start none =
    let first : m ≡ false = none 0 in
    simp first (ap (λ (ns : List ℕ). start ∷ ns) (open_all ms (suc start) (λ v. none (suc v))))

-- where all have their marks
open_none : (ms : List Bool) (start : ℕ) → ((v : ℕ) → v < length ms → has_mark ms v ≡ true) → open_from start ms ≡ []
open_none [] start marked = refl
open_none (m ∷ ms) start marked =
    let first : m ≡ true = marked 0 (omega arith) in
    simp first (open_none ms (suc start) (λ v below. marked (suc v) (omega (arith, below))))

-- where one more has its mark
open_less : (ms : List Bool) (start x : ℕ) → x < length ms → has_mark ms x ≡ false → IsPermutation (open_from start ms) ((start + x) ∷ open_from start (set ms x true))
open_less [] start x below fresh = absurd (omega arith)
open_less (true ∷ ms) start zero below fresh = absurd (let no : ⊥ = cc in no)
open_less (false ∷ ms) start zero below fresh =
    let same : start ≡ start + 0 = omega arith in
    subst (λ i. IsPermutation (start ∷ open_from (suc start) ms) (i ∷ open_from (suc start) ms)) same (IsPermutation-refl (start ∷ open_from (suc start) ms))
open_less (true ∷ ms) start (suc x) below fresh =
    let same : suc start + x ≡ start + suc x = omega arith in
    subst (λ i. IsPermutation (open_from (suc start) ms) (i ∷ open_from (suc start) (set ms x true))) same (open_less ms (suc start) x (omega arith) fresh)
open_less (false ∷ ms) start (suc x) below fresh =
    let same : suc start + x ≡ start + suc x = omega arith in
    IsPermutation-trans _ _ _
    (IsPermutation-cons start _ _ (subst (λ i. IsPermutation (open_from (suc start) ms) (i ∷ open_from (suc start) (set ms x true))) same (open_less ms (suc start) x (omega arith) fresh)))
    (IsPermutation-middle (start ∷ []) (start + suc x) (open_from (suc start) (set ms x true)))

-- ---- one more node

pub order_none : (lists : List (List ℕ)) (placed : List Bool) → length placed ≡ length lists → ((v : ℕ) → has_mark placed v ≡ false) → IsOrder lists placed []
order_none lists placed size none = record {
  count = size;
  once = subst (IsPermutation (numbers_from 0 (length lists))) (sym (open_all placed 0 none ∙ ap (numbers_from 0) size)) (IsPermutation-refl (numbers_from 0 (length lists)));
  listed = λ v is. let e : has_mark placed v ≡ false = none v in absurd (false_true e is);
  placed_all = λ v here. absurd here;
  following = λ i v t is need below. cc;
}
  where
    false_true : {b : Bool} → b ≡ false → b ≡ true → ⊥
    false_true e f = cc

pub order_more : (lists : List (List ℕ)) (placed : List Bool) (nodes : List ℕ) (x : ℕ) → IsOrder lists placed nodes → CanBePlaced lists placed x
    → IsOrder lists (set placed x true) (nodes ++ x ∷ [])
order_more lists placed nodes x order can = record {
  count = length-set placed x true ∙ order.count;
  once = IsPermutation-pop_more (numbers_from 0 (length lists)) nodes (open_from 0 placed) (open_from 0 (set placed x true)) x order.once
      (let same : 0 + x ≡ x = omega arith in subst (λ i. IsPermutation (open_from 0 placed) (i ∷ open_from 0 (set placed x true))) same (open_less placed 0 x can.0 can.1));
  listed = λ v is. listed v (marked_cases placed x v is);
  placed_all = λ v here. placed_all v (In-append_cases v nodes (x ∷ []) here);
  following = λ i v t is need below. following i v t (grind arith) is need below;
}
  where
    listed : (v : ℕ) → (v ≡ x) ⊎ (has_mark placed v ≡ true) → In v (nodes ++ x ∷ [])
    listed v (inl same) = In-append_right v nodes (x ∷ []) (inl same)
    listed v (inr had) = In-append_left v nodes (x ∷ []) (order.listed v had)

    placed_all : (v : ℕ) → In v nodes ⊎ In v (x ∷ []) → has_mark (set placed x true) v ≡ true
    placed_all v (inl here) = marked_kept placed x v can.0 (order.placed_all v here)
    placed_all v (inr (inl same)) = ap (has_mark (set placed x true)) same ∙ marked_same placed x can.0
    placed_all v (inr (inr never)) = absurd never

    within_some : (i v : ℕ) → slice_get (nodes ++ x ∷ []) i ≡ Some v → i < length nodes + 1
    within_some i v is =
        let bound : i < length (nodes ++ x ∷ []) = slice_get_within (nodes ++ x ∷ []) i v is in
        let size : length (nodes ++ x ∷ []) ≡ length nodes + 1 = length-append nodes (x ∷ []) in
        omega arith

    following : (i v t : ℕ) → (i < length nodes) ⊎ (length nodes ≤ i) → slice_get (nodes ++ x ∷ []) i ≡ Some v → In t (edges lists v) → t < length lists → In t (take i (nodes ++ x ∷ []))
    following i v t (inl before) is need below =
        let is' : slice_get nodes i ≡ Some v = sym (slice_get-append_left nodes (x ∷ []) i before) ∙ is in
        subst (In t) (sym (take-append-le i nodes (x ∷ []) (omega arith))) (order.following i v t is' need below)
    following i v t (inr past) is need below =
        let at : i ≡ length nodes = let bound : i < length nodes + 1 = within_some i v is in omega arith in
        let last : slice_get (nodes ++ x ∷ []) i ≡ Some x = ap (slice_get (nodes ++ x ∷ [])) at ∙ slice_get-append_at nodes x [] in
        let same : v ≡ x = cc in
        let mark : has_mark placed t ≡ true = can.2 t (subst (λ z. In t (edges lists z)) same need) (subst (λ n. t < n) (sym order.count) below) in
        let here : In t nodes = order.listed t mark in
        let prefix : take i (nodes ++ x ∷ []) ≡ take i nodes = take-append-le i nodes (x ∷ []) (omega arith) in
        let whole : take i nodes ≡ nodes = ap (λ n. take n nodes) at ∙ take_all nodes in
        subst (In t) (sym (prefix ∙ whole)) here
      where
        take_all : (xs : List ℕ) → take (length xs) xs ≡ xs
        take_all [] = refl
        take_all (y ∷ ys) = ap (λ zs. y ∷ zs) (take_all ys)

-- ---- a pass

pub record IsPlacing (lists : List (List ℕ)) (done : List ℕ) (old placed : List Bool) (nodes : List ℕ) (changed : Bool) : Type 0 where
  pub order : IsOrder lists placed nodes
  pub progress : Placed lists done old placed changed

pub placing_none : (lists : List (List ℕ)) (old : List Bool) (nodes : List ℕ) → IsOrder lists old nodes → IsPlacing lists [] old old nodes false
placing_none lists old nodes order = record { order = order; progress = (refl, λ v here. absurd here) }

module _ (lists : List (List ℕ)) (candidates : List ℕ) (i : ℕ) (below : i < length candidates) (old placed : List Bool) (nodes : List ℕ) (changed : Bool)
    (placing : IsPlacing lists (take i candidates) old placed nodes changed) (answer : Bool)
    (says : MatchBool answer (CanBePlaced lists placed (get_or candidates i 0)) (MustWait lists placed (get_or candidates i 0))) where
  pub placing_skip : (placed' : List Bool) (nodes' : List ℕ) (changed' : Bool) → answer ≡ false → placed' ≡ placed → nodes' ≡ nodes → changed' ≡ changed
      → IsPlacing lists (take (i + 1) candidates) old placed' nodes' changed'
  placing_skip placed' nodes' changed' denied p q r =
      rw (p, q, r) (record { order = placing.order; progress = go changed placing.progress })
    where
      wait : MustWait lists placed (get_or candidates i 0)
      wait = subst (λ b. MatchBool b (CanBePlaced lists placed (get_or candidates i 0)) (MustWait lists placed (get_or candidates i 0))) denied says

      each : ((v : ℕ) → In v (take i candidates) → MustWait lists placed v) → (v : ℕ) → In v (take i candidates) ⊎ In v (get_or candidates i 0 ∷ []) → MustWait lists placed v
      each before v (inl here) = before v here
      each before v (inr (inl same)) = subst (MustWait lists placed) (sym same) wait
      each before v (inr (inr never)) = absurd never

      go : (b : Bool) → Placed lists (take i candidates) old placed b → Placed lists (take (i + 1) candidates) old placed b
      go true fewer = fewer
      go false both =
          (both.0, λ v here. each both.1 v (In-append_cases v (take i candidates) (get_or candidates i 0 ∷ []) (subst (In v) (take_more candidates i 0 below) here)))

  pub placing_position : (placed' : List Bool) (nodes' : List ℕ) (changed' : Bool) → answer ≡ true → placed' ≡ set placed (get_or candidates i 0) true
      → nodes' ≡ nodes ++ get_or candidates i 0 ∷ [] → changed' ≡ true → IsPlacing lists (take (i + 1) candidates) old placed' nodes' changed'
  placing_position placed' nodes' changed' given p q r =
      rw (p, q, r) (record { order = order_more lists placed nodes (get_or candidates i 0) placing.order can; progress = fewer changed placing.progress })
    where
      can : CanBePlaced lists placed (get_or candidates i 0)
      can = subst (λ b. MatchBool b (CanBePlaced lists placed (get_or candidates i 0)) (MustWait lists placed (get_or candidates i 0))) given says

      one : suc (open_count (set placed (get_or candidates i 0) true)) ≡ open_count placed
      one = open_fewer placed (get_or candidates i 0) can.0 can.1

      fewer : (b : Bool) → Placed lists (take i candidates) old placed b → open_count (set placed (get_or candidates i 0) true) < open_count old
      fewer true less = let e : suc (open_count (set placed (get_or candidates i 0) true)) ≡ open_count placed = one in omega arith
      fewer false both =
          let e : suc (open_count (set placed (get_or candidates i 0) true)) ≡ open_count placed = one in
          let same : open_count placed ≡ open_count old = ap open_count both.0 in
          omega arith

-- ---- a pass in code, whose marks are written back to their list

module _ (graph : List NodeList) (old lent new : List Bool) (n : ℕ) (size : n ≡ length old) (same : length new ≡ length lent) (is : lent ≡ old) where
  pub placing_begins : (n' : ℕ) (waited : List ℕ) → length old ≡ length graph → old ≡ replicate n' false → waited ≡ [] → IsOrder (lists_of graph) lent waited
  placing_begins n' waited count fresh none =
      rw (is, none) (order_none (lists_of graph) old (count ∙ sym (length-lists graph)) (λ v. ap (λ ms. has_mark ms v) fresh ∙ none_marked n' v))

  back : take n (new ++ drop (length new) old) ≡ new
  back = written_back n new old size (same ∙ ap length is)

  pub placing_ends : (nodes : List ℕ) → IsOrder (lists_of graph) new nodes → IsOrder (lists_of graph) (take n (new ++ drop (length new) old)) nodes
  placing_ends nodes order = subst (λ ms. IsOrder (lists_of graph) ms nodes) (sym back) order

  pub waiting_ends : (nodes all : List ℕ) → ((v : ℕ) → v < length graph → In v all) → ((v : ℕ) → In v all → MustWait (lists_of graph) new v)
      → (v : ℕ) → v < length graph → MustWait (lists_of graph) (take n (new ++ drop (length new) old)) v
  waiting_ends nodes all listed wait v below = subst (λ ms. MustWait (lists_of graph) ms v) (sym back) (wait v (listed v below))

-- numbers up to one more
pub numbers_more : (numbers : List ℕ) (n : ℕ) → ((v : ℕ) → v < n → In v numbers) → (v : ℕ) → v < n + 1 → In v (numbers ++ n ∷ [])
numbers_more numbers n before v below = go (grind arith)
  where
    go : (v < n) ⊎ (v ≡ n) → In v (numbers ++ n ∷ [])
    go (inl lower) = In-append_left v numbers (n ∷ []) (before v lower)
    go (inr same) = In-append_right v numbers (n ∷ []) (inl same)

-- ---- what an order says of cycles

-- a cycle can be followed for as long as one likes
repeated : {A : Type 0} (needs : A → List A) (v : A) → Depends needs v v → (n : ℕ) → (m : ℕ) × (n ≤ m) × Chain needs m v v
repeated needs v around zero = (0, omega arith, refl)
repeated needs v (k, chain) (suc n) =
    let before = repeated needs v (k, chain) n in
    (suc k + before.0, omega (arith, before.1), Chain-append needs (suc k) before.0 v v v chain before.2)

module _ (lists : List (List ℕ)) (placed : List Bool) (nodes : List ℕ) (order : IsOrder lists placed nodes) where
  -- a node that is not there needs nothing
  past : (k t w : ℕ) → length lists ≤ t → Chain (edges lists) k t w → k ≤ 0
  past zero t w far chain = omega arith
  past (suc k) t w far (s, need, chain) = let within : t < length lists = edges_within lists t s need in absurd (omega arith)

  position_before : (t : ℕ) (xs : List ℕ) (i : ℕ) → In t (take i xs) → (j : ℕ) × (j < i) × (slice_get xs j ≡ Some t)
  position_before t xs zero here = absurd here
  position_before t [] (suc i) here = absurd here
  position_before t (x ∷ xs) (suc i) (inl same) = (0, omega arith, ap Some (sym same))
  position_before t (x ∷ xs) (suc i) (inr here) = let found = position_before t xs i here in (suc found.0, omega (arith, found.1), found.2)

  -- a chain from a node in the order is no longer than its position allows
  chain_bound : (k i v w : ℕ) → slice_get nodes i ≡ Some v → Chain (edges lists) k v w → k ≤ suc i
  chain_bound zero i v w at chain = omega arith
  chain_bound (suc k) i v w at (t, need, chain) = by_node (grind arith) (λ j is. chain_bound k j t w is chain)
    where
      by_node : (t < length lists) ⊎ (length lists ≤ t) → ((j : ℕ) → slice_get nodes j ≡ Some t → k ≤ suc j) → suc k ≤ suc i
      by_node (inr far) later = let none : k ≤ 0 = past k t w far chain in omega arith
      by_node (inl near) later =
          let found = position_before t nodes i (order.following i v t at need near) in
          let rest : k ≤ suc found.0 = later found.0 found.2 in
          let lower : found.0 < i = found.1 in
          omega arith

  pub placed_no_cycle : (v : ℕ) → has_mark placed v ≡ true → Depends (edges lists) v v → ⊥
  placed_no_cycle v is around =
      let at = position_of_In v nodes (order.listed v is) in
      let long = repeated (edges lists) v around (suc (suc at.0)) in
      let bound : long.0 ≤ suc at.0 = chain_bound long.0 at.0 v v at.1 long.2 in
      let more : suc (suc at.0) ≤ long.0 = long.1 in
      absurd (omega arith)

  pub complete_acyclic : ((v : ℕ) → v < length lists → has_mark placed v ≡ true) → IsAcyclic (edges lists)
  complete_acyclic complete v (k, (t, need, chain)) = placed_no_cycle v (complete v (edges_within lists v t need)) (k, (t, need, chain))

  -- ---- where there is no cycle the longest order has all nodes

  upto : ℕ → List ℕ
  upto zero = []
  upto (suc n) = n ∷ upto n

  In-upto : (n j : ℕ) → j < n → In j (upto n)
  unfolding upto
  In-upto zero j below = absurd (omega arith)
  In-upto (suc n) j below = go (grind arith) (In-upto n j)
    where
      go : (j ≡ n) ⊎ (j < n) → (j < n → In j (upto n)) → In j (n ∷ upto n)
      go (inl same) rest = inl same
      go (inr lower) rest = inr (rest lower)

  length-upto : (n : ℕ) → length (upto n) ≡ n
  unfolding upto
  length-upto zero = refl
  length-upto (suc n) = ap suc (length-upto n)

  module _ (longest : (v : ℕ) → v < length lists → MustWait lists placed v) where
    waiting_chain : (k v : ℕ) → v < length lists → has_mark placed v ≡ false → (w : ℕ) × Chain (edges lists) k v w
    waiting_chain zero v below is = (v, refl)
    waiting_chain (suc k) v below is =
        let next = longest v below (subst (λ n. v < n) (sym order.count) below) is in
        let rest = waiting_chain k next.0 (subst (λ n. next.0 < n) order.count next.2) next.3 in
        (rest.0, (next.0, next.1, rest.1))

    pub acyclic_complete : IsAcyclic (edges lists) → (v : ℕ) → v < length lists → has_mark placed v ≡ true
    acyclic_complete acyclic v below = go (has_mark placed v) refl
      where
        within : IsWithin (edges lists) (upto (length lists))
        within a b need = In-upto (length lists) a (edges_within lists a b need)

        go : (b : Bool) → has_mark placed v ≡ b → has_mark placed v ≡ true
        go true is = is
        go false is =
            let long = waiting_chain (suc (length lists)) v below is in
            let bound : suc (length lists) ≤ length (upto (length lists)) = Chain-le (edges lists) (upto (length lists)) within acyclic (suc (length lists)) v long.0 long.1 in
            let size : length (upto (length lists)) ≡ length lists = length-upto (length lists) in
            absurd (omega arith)

-- an order of all nodes has each once
pub whole_order : (lists : List (List ℕ)) (placed : List Bool) (nodes : List ℕ) → IsOrder lists placed nodes → ((v : ℕ) → v < length lists → has_mark placed v ≡ true)
    → IsPermutation (numbers_from 0 (length lists)) nodes
whole_order lists placed nodes order complete =
    subst (IsPermutation (numbers_from 0 (length lists)))
    (ap (λ (ns : List ℕ). nodes ++ ns) (open_none placed 0 (λ v below. complete v (subst (λ n. v < n) order.count below))) ∙ append-nil nodes) order.once
