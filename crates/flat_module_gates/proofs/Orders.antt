-- An order of a body's operations is an order of the graph of what each needs before it.
use Rattle.std.proofs.Common.{◌≡◌, ℕ, zero, suc, ◌+◌, ◌<◌, Bool, true, false, List, [], ◌∷◌, ◌++◌, map, length, take, get_or, slice_get, Option, Some, None, option_map, IsPermutation, refl, sym, ap}
use Rattle.std.proofs.Common.{ap₂, subst, ◌∙◌, inl, inr, arith, append_assoc, ◌⊎◌}
use Rattle.std.proofs.lemmas.List.{take-append-le, take_all, take_more, map-append, length-map}
use Rattle.std.proofs.lemmas.Option.{slice_get_within}
use Rattle.std.proofs.lemmas.List.Sorted.{IsPermutation-sym, Contains-permutation}
use Rattle.wiring.specs.Wiring.{In}
use Rattle.wiring.proofs.Members.{Contains-from_In, In-from_Contains, In-append_cases}
use Rattle.wiring.proofs.Lists.{slice_get-append_at, take-suc_some}
use Rattle.wiring.proofs.Options.{option_map_some}
use Rattle.hw_model.specs.Design.{Ref, Op, is_register, is_output_op}
use Rattle.hw_model.specs.Design.Ref.{port, result, undefined}
use Rattle.graphs.specs.declared.graph.NodeList.{NodeList}
use Rattle.graphs.specs.Graphs.{lists_of, edges, has_mark}
use Rattle.graphs.specs.Orders.{numbers_from, MustWait, IsOrder as IsGraphOrder}
use Rattle.graphs.proofs.Placing.{whole_order}
use Rattle.graphs.proofs.Ranked.{NeedsLower, ranked_order as graph_order}
use Rattle.flat_module_laws.specs.Orders.{IsSeen, ComesAfter, StandInOrder, IsOrder}
use Rattle.flat_module_laws.proofs.Positions.{is_in_order}
use Rattle.flat_module_gates.specs.Orders.{HasOrder, makers_of, needs_of}

-- ---- positions

number_within : (n start v : ℕ) → In v (numbers_from start n) → v < start + n
number_within zero start v here = absurd here
number_within (suc n) start v (inl same) = omega (arith, same)
number_within (suc n) start v (inr here) = let rest = number_within n (suc start) v here in omega (arith, rest)

-- an order has positions alone
pub within_order : (n : ℕ) (order : List ℕ) → IsPermutation (numbers_from 0 n) order → (v : ℕ) → In v order → v < n
within_order n order all v here =
    let at : v < 0 + n = number_within n 0 v
    (In-from_Contains v (numbers_from 0 n) (Contains-permutation order (numbers_from 0 n) v (IsPermutation-sym _ _ all) (Contains-from_In v order here))) in
    omega (arith, at)

-- ---- what an operation needs

In-makers : (rs : List Ref) (j k : ℕ) → In (result j k) rs → In j (makers_of rs)
In-makers [] j k here = absurd here
In-makers (port i ∷ rs) j k (inl same) = absurd (let no : ⊥ = cc in no)
In-makers (port i ∷ rs) j k (inr here) = In-makers rs j k here
In-makers (undefined ∷ rs) j k (inl same) = absurd (let no : ⊥ = cc in no)
In-makers (undefined ∷ rs) j k (inr here) = In-makers rs j k here
In-makers (result i l ∷ rs) j k (inl same) = inl (let e : j ≡ i = cc in e)
In-makers (result i l ∷ rs) j k (inr here) = inr (In-makers rs j k here)

made_by : (rs : List Ref) (j : ℕ) → In j (makers_of rs) → (k : ℕ) × In (result j k) rs
made_by [] j here = absurd here
made_by (port i ∷ rs) j here = let rest = made_by rs j here in (rest.0, inr rest.1)
made_by (undefined ∷ rs) j here = let rest = made_by rs j here in (rest.0, inr rest.1)
made_by (result i l ∷ rs) j (inl same) = (l, inl (ap (λ n. result n l) same))
made_by (result i l ∷ rs) j (inr here) = let rest = made_by rs j here in (rest.0, inr rest.1)

abbrev graph_of : List Op → List (List ℕ)
graph_of os = map needs_of os

edges_at : (os : List Op) (v : ℕ) (o : Op) → slice_get os v ≡ Some o → edges (graph_of os) v ≡ needs_of o
edges_at [] v o at = absurd (let no : ⊥ = cc in no)
edges_at (p ∷ os) zero o at = ap needs_of (let e : p ≡ o = cc in e)
edges_at (p ∷ os) (suc v) o at = edges_at os v o at

edges_past : (os : List Op) (v : ℕ) → slice_get os v ≡ None → edges (graph_of os) v ≡ []
edges_past [] v at = refl
edges_past (p ∷ os) zero at = absurd (let no : ⊥ = cc in no)
edges_past (p ∷ os) (suc v) at = edges_past os v at

-- what it takes
record Takes (os : List Op) (v t : ℕ) : Type 0 where
  pub op : Op
  pub at : slice_get os v ≡ Some op
  pub stays : is_register op ≡ false
  pub gives : is_output_op op ≡ false
  pub number : ℕ
  pub taken : In (result t number) op.operands

takes : (os : List Op) (v t : ℕ) → In t (edges (graph_of os) v) → Takes os v t
takes os v t need = of_op (slice_get os v) refl
  where
    of_op : (y : Option Op) → slice_get os v ≡ y → Takes os v t
    of_op None at = absurd (subst (In t) (edges_past os v at) need)
    of_op (Some o) at = go (is_register o) refl (is_output_op o) refl (subst (In t) (edges_at os v o at) need)
      where
        go : (a : Bool) → is_register o ≡ a → (b : Bool) → is_output_op o ≡ b → In t (needs_of o) → Takes os v t
        go true is b also here = absurd (simp is at here)
        go false is true also here = absurd (simp (is, also) at here)
        go false is false also here =
            let found = made_by o.operands t (simp (is, also) at here) in
            record { op = o; at = at; stays = is; gives = also; number = found.0; taken = found.1 }

needed : (os : List Op) (v : ℕ) (o : Op) → slice_get os v ≡ Some o → is_register o ≡ false → is_output_op o ≡ false → (j k : ℕ) → In (result j k) o.operands
    → In j (edges (graph_of os) v)
needed os v o at r u j k here =
    let is : needs_of o ≡ makers_of o.operands = simp (r, u) in
    subst (In j) (sym (edges_at os v o at ∙ is)) (In-makers o.operands j k here)

-- ---- an order of the graph

-- what operations take is there
abbrev TakeWithin : List Op → Type 0
TakeWithin os = (v : ℕ) (o : Op) → slice_get os v ≡ Some o → is_register o ≡ false → is_output_op o ≡ false → (j k : ℕ) → In (result j k) o.operands → j < length os

module _ (os : List Op) (placed : List Bool) (nodes : List ℕ) (order : IsGraphOrder (graph_of os) placed nodes) (there : TakeWithin os) where
  size : length (graph_of os) ≡ length os
  size = length-map os needs_of

  stands : (prefix rest seen : List ℕ) → nodes ≡ prefix ++ rest → ((v : ℕ) → In v prefix → In v seen) → StandInOrder os seen rest
  stands prefix [] seen is have = tt
  stands prefix (i ∷ rest) seen is have =
      (after (slice_get os i) refl, stands (prefix ++ i ∷ []) rest (i ∷ seen) (is ∙ sym (append_assoc prefix (i ∷ []) rest)) (λ v here. more v (In-append_cases v prefix (i ∷ []) here)))
    where
      more : (v : ℕ) → In v prefix ⊎ In v (i ∷ []) → In v (i ∷ seen)
      more v (inl here) = inr (have v here)
      more v (inr (inl same)) = inl same
      more v (inr (inr never)) = absurd never

      here_at : slice_get nodes (length prefix) ≡ Some i
      here_at = ap (λ ns. slice_get ns (length prefix)) is ∙ slice_get-append_at prefix i rest

      before : take (length prefix) nodes ≡ prefix
      before = ap (take (length prefix)) is ∙ take-append-le (length prefix) prefix (i ∷ rest) (omega arith) ∙ take_all (length prefix) prefix (omega arith)

      each : (o : Op) → slice_get os i ≡ Some o → is_register o ≡ false → is_output_op o ≡ false → (a : Ref) → In a o.operands → IsSeen seen a
      each o at r u (port j) here = tt
      each o at r u undefined here = tt
      each o at r u (result j k) here =
          have j (subst (In j) before
          (order.following (length prefix) i j here_at (needed os i o at r u j k here) (subst (λ n. j < n) (sym size) (there i o at r u j k here))))

      after : (y : Option Op) → slice_get os i ≡ y → ComesAfter seen y
      after None at = tt
      after (Some o) at = λ r u a here. each o at r u a here

  pub order_is : ((v : ℕ) → v < length (graph_of os) → has_mark placed v ≡ true) → IsOrder os nodes
  order_is complete = record {
    all = subst (λ n. IsPermutation (numbers_from 0 n) nodes) size (whole_order (graph_of os) placed nodes order complete);
    stand = stands [] nodes [] refl (λ v here. here);
  }

-- ---- where there is an order

module _ (os : List Op) where
  within_seen : (order seen : List ℕ) → ((v : ℕ) → In v seen → v < length os) → ((v : ℕ) → In v order → v < length os) → StandInOrder os seen order
      → (i : ℕ) → In i order → (o : Op) → slice_get os i ≡ Some o → is_register o ≡ false → is_output_op o ≡ false → (j k : ℕ) → In (result j k) o.operands → j < length os
  within_seen [] seen low all stand i here o at r u j k taken = absurd here
  within_seen (x ∷ order) seen low all stand i (inl same) o at r u j k taken =
      let after : ComesAfter seen (Some o) = subst (ComesAfter seen) (ap (slice_get os) (sym same) ∙ at) stand.0 in
      low j (after r u (result j k) taken)
  within_seen (x ∷ order) seen low all stand i (inr here) o at r u j k taken =
      within_seen order (x ∷ seen) more (λ v h. all v (inr h)) stand.1 i here o at r u j k taken
    where
      more : (v : ℕ) → In v (x ∷ seen) → v < length os
      more v (inl same) = let bound : x < length os = all x (inl refl) in omega (arith, same, bound)
      more v (inr h) = low v h

  take_within : HasOrder os → TakeWithin os
  take_within (order, is) i o at r u j k taken =
      within_seen order [] (λ v h. absurd h) (within_order (length os) order is.all) is.stand i (is_in_order (length os) order is.all i (slice_get_within os i o at)) o at r u j k taken

  module _ (placed : List Bool) (count : length placed ≡ length os) (longest : (v : ℕ) → v < length os → MustWait (graph_of os) placed v) where
    all_marked : (order seen : List ℕ) → ((v : ℕ) → In v order → v < length os) → ((v : ℕ) → In v seen → has_mark placed v ≡ true) → StandInOrder os seen order
        → (v : ℕ) → In v order → has_mark placed v ≡ true
    all_marked [] seen within marked stand v here = absurd here
    all_marked (i ∷ order) seen within marked stand v here = go here (all_marked order (i ∷ seen) (λ w at. within w (inr at)) more stand.1)
      where
        by_mark : (b : Bool) → has_mark placed i ≡ b → has_mark placed i ≡ true
        by_mark true is = is
        by_mark false is =
            let below = within i (inl refl) in
            let open_one = longest i below (subst (λ n. i < n) (sym count) below) is in
            let t = takes os i open_one.0 open_one.1 in
            let after : ComesAfter seen (Some t.op) = subst (ComesAfter seen) t.at stand.0 in
            let had : has_mark placed open_one.0 ≡ true = marked open_one.0 (after t.stays t.gives (result open_one.0 t.number) t.taken) in
            let not : has_mark placed open_one.0 ≡ false = open_one.3 in
            absurd (let no : ⊥ = cc in no)

        first : has_mark placed i ≡ true
        first = by_mark (has_mark placed i) refl

        more : (w : ℕ) → In w (i ∷ seen) → has_mark placed w ≡ true
        more w (inl same) = ap (has_mark placed) same ∙ first
        more w (inr at) = marked w at

        go : In v (i ∷ order) → ((v : ℕ) → In v order → has_mark placed v ≡ true) → has_mark placed v ≡ true
        go (inl same) rest = ap (has_mark placed) same ∙ first
        go (inr at) rest = rest v at

    all_placed : HasOrder os → (v : ℕ) → v < length os → has_mark placed v ≡ true
    all_placed (order, is) v below =
        all_marked order [] (within_order (length os) order is.all) (λ w here. absurd here) is.stand v (is_in_order (length os) order is.all v below)

-- the longest order of the graph is one of the body, where there is one
pub order_found : (os : List Op) (lists : List (List ℕ)) (placed : List Bool) (nodes : List ℕ) → lists ≡ graph_of os → HasOrder os → IsGraphOrder lists placed nodes
    → ((v : ℕ) → v < length lists → MustWait lists placed v) → IsOrder os nodes
order_found os lists placed nodes is has order longest =
    let order' : IsGraphOrder (graph_of os) placed nodes = subst (λ ls. IsGraphOrder ls placed nodes) is order in
    let longest' : (v : ℕ) → v < length (graph_of os) → MustWait (graph_of os) placed v = subst (λ ls. (v : ℕ) → v < length ls → MustWait ls placed v) is longest in
    let same : length (graph_of os) ≡ length os = length-map os needs_of in
    order_is os placed nodes order' (take_within os has)
    (λ v below. all_placed os placed (order'.count ∙ same) (λ w near. longest' w (subst (λ n. w < n) (sym same) near)) has v (subst (λ n. v < n) same below))

-- ---- in code, one after another

makers-append : (xs ys : List Ref) → makers_of (xs ++ ys) ≡ makers_of xs ++ makers_of ys
makers-append [] ys = refl
makers-append (port j ∷ xs) ys = makers-append xs ys
makers-append (undefined ∷ xs) ys = makers-append xs ys
makers-append (result j k ∷ xs) ys = ap (λ (zs : List ℕ). j ∷ zs) (makers-append xs ys)

-- one value more
pub makers_more : {A : Type 0} (f : A → Ref) (vs : List A) (i : ℕ) (v d : A) (made : List ℕ) → i < length vs → v ≡ get_or vs i d → makers_of (f v ∷ []) ≡ made
    → makers_of (map f (take (i + 1) vs)) ≡ makers_of (map f (take i vs)) ++ made
makers_more f vs i v d made below at is =
    ap (λ xs. makers_of (map f xs)) (take_more vs i d below) ∙ ap makers_of (map-append f (take i vs) (get_or vs i d ∷ []))
    ∙ makers-append (map f (take i vs)) (f (get_or vs i d) ∷ []) ∙ ap (λ zs. makers_of (map f (take i vs)) ++ zs) (ap (λ x. makers_of (f x ∷ [])) (sym at) ∙ is)

-- one operation more
pub graph_more : (os : List Op) (i : ℕ) (graph graph' : List NodeList) (n : NodeList) → lists_of graph ≡ map needs_of (take i os) → graph' ≡ graph ++ n ∷ []
    → option_map needs_of (slice_get os i) ≡ Some n.nodes.items → lists_of graph' ≡ map needs_of (take (i + 1) os)
graph_more os i graph graph' n before grown is =
    let found = option_map_some needs_of (slice_get os i) is in
    let next : i + 1 ≡ suc i = omega arith in
    ap lists_of grown ∙ map-append (λ (x : NodeList). x.nodes.items) graph (n ∷ []) ∙ ap₂ (λ xs y. xs ++ y ∷ []) before (sym found.2)
    ∙ sym (map-append needs_of (take i os) (found.0 ∷ [])) ∙ ap (map needs_of) (sym (take-suc_some os i found.0 found.1) ∙ ap (λ k. take k os) (sym next))

-- ---- operations with ranks

-- the operation at each position takes results of operations of lesser ranks alone, but registers and outputs of any
abbrev pub TakesLower : List Op → (ℕ → ℕ) → Type 0
TakesLower os rank = (i : ℕ) (o : Op) → slice_get os i ≡ Some o → is_register o ≡ false → is_output_op o ≡ false
    → (j k : ℕ) → In (result j k) o.operands → (j < length os) × (rank j < rank i)

-- have an order
pub ranked_order : (os : List Op) (rank : ℕ → ℕ) → TakesLower os rank → HasOrder os
ranked_order os rank lower =
    let found = graph_order (graph_of os) rank needs_lower in
    (found.1, order_is os found.0 found.1 found.2 (λ v o at r u j k here. (lower v o at r u j k here).0) found.3)
  where
    needs_lower : NeedsLower (graph_of os) rank
    needs_lower v t need below = let k = takes os v t need in (lower v k.op k.at k.stays k.gives t k.number k.taken).1
