-- Weights of modules: what is kept, up to a most, is the weight, where each module is weighed after those that it instances.
use Rattle.std.proofs.Common.{◌≡◌, ◌⊎◌, ℕ, zero, suc, ◌+◌, ◌<◌, ◌≤◌, ◌^◌, ◌≢◌, Bool, true, false, min, eqb, List, [], ◌∷◌, ◌++◌, length, map, take, get_or, set, slice_get, slice_index, Option, Some}
use Rattle.std.proofs.Common.{None, refl, sym, ap, ap₂, subst, ◌∙◌, inl, inr, arith, length-set}
use Rattle.std.proofs.lemmas.List.{map_more, take_all, take_more, length-map, get_or-set_same, get_or-set_other}
use Rattle.std.proofs.lemmas.Bool.{eqb-true, eqb-false}
use Rattle.std.proofs.lemmas.Option.{slice_get_within, slice_get-get_or}
use Rattle.wiring.specs.Wiring.{In, IsHeight}
use Rattle.wiring.proofs.Lists.{take-suc_some, slice_get_some}
use Rattle.wiring.proofs.Members.{In-append_left, In-append_right, In-append_cases}
use Rattle.wiring.proofs.Heights.{FallsAlong-height, height-le}
use Rattle.hw_model.specs.Types.{Name, HwType, leaves}
use Rattle.hw_model.specs.TypeViews.{type_of}
use Rattle.hw_model.specs.Kinds.{Kind}
use Rattle.hw_model.specs.Kinds.Kind.{instance}
use Rattle.hw_model.specs.Design.{Op, Module, Design, Port, find_module, instance_in}
use Rattle.hw_model.specs.Sound.{body_of}
use Rattle.hw_model.specs.Hierarchy.{callee_symbols, called_by, calls, HasNoRecursion}
use Rattle.hw_model.specs.Weight.{leaf_count, kind_weight, body_weight, weight_of, module_weight, weight}
use Rattle.hw_model.proofs.Content.{call_heights}
use Rattle.hw_model.proofs.Finite.{calls_within}
use Rattle.hw_model.proofs.FieldSums.{capped_more}
use Rattle.ir_store.specs.Symbols.{symbol_position}
use Rattle.ir_store.specs.Designs.{StoredModule, numbered_module, port_of}
use Rattle.ir_store.specs.declared.design.Port.{Port as CodePort}
use Rattle.design_cycles.specs.Asked.{HasDistinctSymbols, IsTooLargeAt}
use Rattle.design_cycles.specs.Calls.{symbols_in, numbers_of, call_lists}
use Rattle.graphs.specs.Graphs.{edges, has_mark}
use Rattle.graphs.specs.Orders.{IsOrder, MustWait}
use Rattle.design_cycles.specs.Positions.{FindsNumber}
use Rattle.design_cycles.specs.Weighing.{kept_weight, weight_by, WeighsAt, Weighs, IsWhole}
use Rattle.design_cycles.proofs.Callees.{call_edges, position_found, number_found, In-numbers, found_at, acyclic_numbers}
use Rattle.graphs.proofs.Placing.{acyclic_complete}
use Rattle.design_cycles.proofs.Returning.{symbols_stored}
use Rattle.design_cycles.proofs.Capped.{leaf_count-push}
use Rattle.graphs.proofs.Marking.{marked_within}
use Rattle.wiring.proofs.Members.{In-slice_get}

-- ---- sums

body_weight-push : (inner : Name → ℕ) (os : List Op) (o : Op) → body_weight inner (os ++ o ∷ []) ≡ body_weight inner os + kind_weight inner o.kind o.types (length o.operands)
body_weight-push inner [] o = omega arith
body_weight-push inner (x ∷ os) o =
    let rest : body_weight inner (os ++ o ∷ []) ≡ body_weight inner os + kind_weight inner o.kind o.types (length o.operands) = body_weight-push inner os o in omega arith

pub body_more : (inner : Name → ℕ) (os : List Op) (j m sum now next : ℕ) → sum ≡ min (body_weight inner (take j os)) m → WeighsAt inner os j m now → next ≡ min (sum + now) m
    → next ≡ min (body_weight inner (take (j + 1) os)) m
body_more inner os j m sum now next before at is =
    let longer : take (j + 1) os ≡ take j os ++ at.op_there ∷ [] =
    (let e : j + 1 ≡ suc j = omega arith in ap (λ n. take n os) e) ∙ take-suc_some os j at.op_there at.has_op in
    capped_more (body_weight inner (take j os)) (kind_weight inner at.op_there.kind at.op_there.types (length at.op_there.operands)) sum now next m before at.weight_is is
    ∙ ap (λ n. min n m) (sym (ap (body_weight inner) longer ∙ body_weight-push inner (take j os) at.op_there))

pub body_all : (inner : Name → ℕ) (os : List Op) (j m sum : ℕ) → length os ≤ j → sum ≡ min (body_weight inner (take j os)) m → sum ≡ min (body_weight inner os) m
body_all inner os j m sum all is = is ∙ ap (λ xs. min (body_weight inner xs) m) (take_all j os all)

abbrev pub port_types : List CodePort → List HwType
port_types ps = map (λ (p : CodePort). type_of p.ty) ps

pub ports_more : (ps : List CodePort) (i : ℕ) (x : CodePort) (sum now next m : ℕ) → i < length ps → x ≡ get_or ps i x → sum ≡ min (leaf_count (port_types (take i ps))) m
    → now ≡ min (length (leaves (type_of x.ty))) m → next ≡ min (sum + now) m → next ≡ min (leaf_count (port_types (take (i + 1) ps))) m
ports_more ps i x sum now next m below is p q r =
    rw (map_more (λ (y : CodePort). type_of y.ty) ps i x below, leaf_count-push (port_types (take i ps)) (type_of (get_or ps i x).ty), sym is)
    (capped_more (leaf_count (port_types (take i ps))) (length (leaves (type_of x.ty))) sum now next m p q r)

pub ports_all : (ps : List CodePort) (i sum m : ℕ) → length ps ≤ i → sum ≡ min (leaf_count (port_types (take i ps))) m → sum ≡ min (leaf_count (map (λ (p : Port). p.type) (map port_of ps))) m
ports_all ps i sum m all is = is ∙ ap (λ xs. min (leaf_count (port_types xs)) m) (take_all i ps all) ∙ ap (λ ts. min (leaf_count ts) m) (go ps)
  where
    go : (xs : List CodePort) → port_types xs ≡ map (λ (p : Port). p.type) (map port_of xs)
    go [] = refl
    go (x ∷ xs) = ap (λ ts. type_of x.ty ∷ ts) (go xs)

pub module_sum : (inner : Name → ℕ) (modules : List StoredModule) (i m ports inside all : ℕ) (one : StoredModule) → Some one ≡ slice_get modules i
    → ports ≡ min (leaf_count (map (λ (p : Port). p.type) one.ports)) m → inside ≡ min (body_weight inner (numbered_module one).body) m → all ≡ min (ports + inside) m
    → all ≡ min (weight_of inner (slice_get (map numbered_module modules) i)) m
module_sum inner modules i m ports inside all one at p q r =
    capped_more (leaf_count (map (λ (x : Port). x.type) one.ports)) (body_weight inner (numbered_module one).body) ports inside all m p q r
    ∙ ap (λ o. min (weight_of inner o) m) (sym (there modules i at))
  where
    there : (ms : List StoredModule) (k : ℕ) → Some one ≡ slice_get ms k → slice_get (map numbered_module ms) k ≡ Some (numbered_module one)
    there [] k at = cc
    there (x ∷ ms) zero at = let e : x ≡ one = cc in ap (λ y. Some (numbered_module y)) e
    there (x ∷ ms) (suc k) at = there ms k at

-- ---- weights do not depend on the depth

body_agree : (f g : Name → ℕ) (m : ℕ) (os : List Op) → ((s : Name) → In s (callee_symbols os) → min (f s) m ≡ min (g s) m) → min (body_weight f os) m ≡ min (body_weight g os) m
body_agree f g m [] agree = refl
body_agree f g m (o ∷ os) agree =
    let first : min (kind_weight f o.kind o.types (length o.operands)) m ≡ min (kind_weight g o.kind o.types (length o.operands)) m =
    by_kind o.kind o.types (length o.operands) (λ s here. agree s (In-append_left s (called_by (instance_in o.kind)) (callee_symbols os) here)) in
    let rest : min (body_weight f os) m ≡ min (body_weight g os) m = body_agree f g m os (λ s here. agree s (In-append_right s (called_by (instance_in o.kind)) (callee_symbols os) here)) in
    omega arith
  where
    by_kind : (kind : Kind) (ts : List HwType) (n : ℕ) → ((s : Name) → In s (called_by (instance_in kind)) → min (f s) m ≡ min (g s) m) → min (kind_weight f kind ts n) m ≡ min (kind_weight g kind ts n) m
    by_kind (instance i) ts n same = let inner : min (f i.symbol) m ≡ min (g i.symbol) m = same i.symbol (inl refl) in omega arith
    by_kind kind ts n same = refl

pub weight_agree : (f g : Name → ℕ) (m : ℕ) (o : Option Module) → ((s : Name) → In s (callee_symbols (body_of o)) → min (f s) m ≡ min (g s) m) → min (weight_of f o) m ≡ min (weight_of g o) m
weight_agree f g m None agree = refl
weight_agree f g m (Some one) agree =
    let rest : min (body_weight f one.body) m ≡ min (body_weight g one.body) m = body_agree f g m one.body agree in omega arith

-- two numbers that are the same up to each most are the same
same_up_to : (a b : ℕ) → ((m : ℕ) → min a m ≡ min b m) → a ≡ b
same_up_to a b each = let e : min a (a + b) ≡ min b (a + b) = each (a + b) in omega arith

module _ (d : Design) (h : Name → ℕ) (height : IsHeight (calls d) h) where
  weight_steady : (m n : ℕ) (s : Name) → h s ≤ m → h s ≤ n → module_weight m d s ≡ module_weight n d s
  weight_steady zero n s low also = let positive : h s ≡ suc _ = height s in absurd (omega arith)
  weight_steady (suc m) zero s low also = let positive : h s ≡ suc _ = height s in absurd (omega arith)
  weight_steady (suc m) (suc n) s low also =
      let inner : (t : Name) → In t (calls d s) → module_weight m d t ≡ module_weight n d t =
      λ t named. (let lower : h t < h s = FallsAlong-height (calls d) h height s t named in weight_steady m n t (omega arith) (omega arith)) in
      same_up_to (module_weight (suc m) d s) (module_weight (suc n) d s)
      (λ most. weight_agree (module_weight m d) (module_weight n d) most (find_module d s) (λ t named. ap (λ k. min k most) (inner t named)))

  -- a module's weight, by those of the modules that it instances
  weight_open : (s : Name) → weight d s ≡ weight_of (weight d) (find_module d s)
  weight_open s =
      same_up_to (weight d s) (weight_of (weight d) (find_module d s))
      (λ most. weight_agree (module_weight (length d) d) (weight d) most (find_module d s) (λ t named. ap (λ k. min k most) (inner t named)))
    where
      rank : (t : Name) → h t ≤ suc (length d)
      rank t = subst (λ k. h t ≤ suc k) (length-map d (λ (m : Module). m.symbol)) (height-le (calls d) (map (λ (m : Module). m.symbol) d) (calls_within d) h height t)

      inner : (t : Name) → In t (calls d s) → module_weight (length d) d t ≡ weight d t
      inner t named =
          let lower : h t < h s = FallsAlong-height (calls d) h height s t named in
          let bound : h s ≤ suc (length d) = rank s in
          weight_steady (length d) (suc (length d)) t (omega arith) (omega arith)

pub weight_unfold : (d : Design) → HasNoRecursion d → (s : Name) → weight d s ≡ weight_of (weight d) (find_module d s)
weight_unfold d finite s = let high = call_heights d finite in weight_open d high.0 high.1 s

-- ---- one more module in an order

module _ (d : Design) (distinct : HasDistinctSymbols d) (finite : HasNoRecursion d) (m : ℕ) where
  -- what is kept of the modules that a module instances gives its weight
  pub weighs_module : (weights : List ℕ) (i : ℕ) (one : Module) (w : ℕ) → slice_get d i ≡ Some one
      → ((t : ℕ) → In t (edges (call_lists d) i) → t < length (call_lists d) → Weighs d weights m t)
      → w ≡ min (weight_of (weight_by (symbols_in d) weights) (slice_get d i)) m → w ≡ min (weight d one.symbol) m
  weighs_module weights i one w at inner is =
      is ∙ ap (λ o. min (weight_of (weight_by (symbols_in d) weights) o) m) at
      ∙ weight_agree (weight_by (symbols_in d) weights) (weight d) m (Some one) agree
      ∙ ap (λ n. min n m) (ap (weight_of (weight d)) (sym (found_at d distinct i one at).1) ∙ sym (weight_unfold d finite one.symbol))
    where
      absent : (s : Name) → symbol_position s (symbols_in d) ≡ None → find_module d s ≡ None
      absent s none = go (find_module d s) refl
        where
          go : (o : Option Module) → find_module d s ≡ o → find_module d s ≡ None
          go None is = is
          go (Some x) is = let has = number_found d s x is in let never : Some has.0 ≡ None = sym has.1 ∙ none in cc

      agree : (s : Name) → In s (callee_symbols one.body) → min (weight_by (symbols_in d) weights s) m ≡ min (weight d s) m
      agree s named = go (symbol_position s (symbols_in d)) refl
        where
          go : (x : Option ℕ) → symbol_position s (symbols_in d) ≡ x → min (kept_weight weights x) m ≡ min (weight d s) m
          go None none =
              let nothing : weight d s ≡ 0 = weight_unfold d finite s ∙ ap (weight_of (weight d)) (absent s none) in omega arith
          go (Some t) position =
              let there = position_found d s t position in
              let below : t < length (call_lists d) =
              (let size : length (call_lists d) ≡ length d = length-map d (λ (x : Module). numbers_of (symbols_in d) (callee_symbols x.body)) in
              let bound : t < length d = slice_get_within d t there.0 there.1 in omega arith) in
              let edge : In t (edges (call_lists d) i) = subst (In t) (sym (call_edges d i one at)) (In-numbers (symbols_in d) s t (callee_symbols one.body) named position) in
              let kept : slice_index weights t ≡ min (weight d there.0.symbol) m = inner t edge below there.0 there.1 in
              let same : weight d there.0.symbol ≡ weight d s = ap (weight d) there.2 in
              omega arith

  pub weighs_more : (weights : List ℕ) (order : List ℕ) (k i w : ℕ) → k < length order → i ≡ get_or order k 0 → i < length weights → length weights ≡ length d → IsWhole (call_lists d) order
      → ((v : ℕ) → In v (take k order) → Weighs d weights m v) → w ≡ min (weight_of (weight_by (symbols_in d) weights) (slice_get d i)) m
      → (v : ℕ) → In v (take (k + 1) order) → Weighs d (set weights i w) m v
  weighs_more weights order k i w below is within count whole before weighed v here one at =
      by_number (eqb v i) refl
    where
      there : slice_get order k ≡ Some i
      there = slice_get-get_or order k 0 below ∙ ap Some (sym is)

      by_number : (b : Bool) → eqb v i ≡ b → slice_index (set weights i w) v ≡ min (weight d one.symbol) m
      by_number true same =
          let e : v ≡ i = eqb-true v i same in
          ap (λ n. get_or (set weights i w) n 0) e ∙ get_or-set_same weights i w 0 within
          ∙ weighs_module weights i one w (ap (slice_get d) (sym e) ∙ at) (λ t edge near. before t (whole.following k i t there edge near)) weighed
      by_number false other =
          let apart : v ≢ i = eqb-false v i other in
          get_or-set_other weights i v w 0 apart ∙ before v (earlier (In-append_cases v (take k order) (get_or order k 0 ∷ []) (subst (In v) (take_more order k 0 below) here))) one at
        where
          earlier : In v (take k order) ⊎ In v (get_or order k 0 ∷ []) → In v (take k order)
          earlier (inl prefix) = prefix
          earlier (inr (inl last)) = absurd (eqb-false v i other (last ∙ sym is))
          earlier (inr (inr never)) = absurd never

-- a longest order is whole
pub order_whole : (lists : List (List ℕ)) (placed : List Bool) (nodes : List ℕ) → IsOrder lists placed nodes → ((v : ℕ) → v < length lists → has_mark placed v ≡ true) → IsWhole lists nodes
order_whole lists placed nodes order complete = record {
  within = λ v here. subst (λ n. v < n) order.count (marked_within placed v (order.placed_all v here));
  all = λ v below. order.listed v (complete v below);
  following = order.following;
}

-- ---- the answer

pub large_found : (d : Design) (weights : List ℕ) (m : ℕ) → 2 ^ 28 < m → ((i : ℕ) → i < length d → Weighs d weights m i) → length weights ≡ length d
    → (answer : Option ℕ) → FindsNumber (λ i. 2 ^ 28 < slice_index weights i) answer → FindsNumber (IsTooLargeAt d) answer
large_found d weights m limit each count None none = λ i large.
    (let below : i < length d = slice_get_within d i large.module_there large.has_module in
    let kept : slice_index weights i ≡ min (weight d large.module_there.symbol) m = each i below large.module_there large.has_module in
    let heavy : 2 ^ 28 < weight d large.module_there.symbol = large.is_large in
    none i (omega arith))
large_found d weights m limit each count (Some i) first = record { holds = holds; first = λ k large. first.first k (heavy k large) }
  where
    heavy : (k : ℕ) → IsTooLargeAt d k → 2 ^ 28 < slice_index weights k
    heavy k large =
        let below : k < length d = slice_get_within d k large.module_there large.has_module in
        let kept : slice_index weights k ≡ min (weight d large.module_there.symbol) m = each k below large.module_there large.has_module in
        let more : 2 ^ 28 < weight d large.module_there.symbol = large.is_large in
        omega arith

    past : (xs : List ℕ) (k : ℕ) → 2 ^ 28 < slice_index xs k → k < length xs
    past [] k more = absurd (omega arith)
    past (x ∷ xs) zero more = omega arith
    past (x ∷ xs) (suc k) more = let rest : k < length xs = past xs k more in omega arith

    holds : IsTooLargeAt d i
    holds =
        let bound : i < length weights = past weights i first.holds in
        let below : i < length d = omega arith in
        let there = slice_get_some d i below in
        let kept : slice_index weights i ≡ min (weight d there.0.symbol) m = each i below there.0 there.1 in
        let more : 2 ^ 28 < slice_index weights i = first.holds in
        record { module_there = there.0; has_module = there.1; is_large = omega arith }

-- ---- the calls in code

module _ (modules : List StoredModule) (m : ℕ) where
  abbrev design : Design
  design = map numbered_module modules

  pub count_modules : length (call_lists design) ≡ length modules
  count_modules = length-map design (λ (x : Module). numbers_of (symbols_in design) (callee_symbols x.body)) ∙ length-map modules numbered_module

  pub node_within : (order : List ℕ) (k : ℕ) → IsWhole (call_lists design) order → k < length order → get_or order k 0 < length modules
  node_within order k whole below =
      let inside : get_or order k 0 < length (call_lists design) = whole.within (get_or order k 0) (In-slice_get (get_or order k 0) order k (slice_get-get_or order k 0 below)) in
      let size : length (call_lists design) ≡ length modules = count_modules in
      omega arith

  pub step_weighs : HasDistinctSymbols design → HasNoRecursion design → (weights slice order : List ℕ) (k w : ℕ) → IsWhole (call_lists design) order → k < length order → slice ≡ weights
      → (length weights ≡ length modules) × ((v : ℕ) → In v (take k order) → Weighs design weights m v)
      → w ≡ min (weight_of (weight_by (map (λ (x : StoredModule). x.symbol) modules) slice) (slice_get design (get_or order k 0))) m
      → (length (set weights (get_or order k 0) w) ≡ length modules) × ((v : ℕ) → In v (take (k + 1) order) → Weighs design (set weights (get_or order k 0) w) m v)
  step_weighs distinct finite weights slice order k w whole below same before weighed = (
    length-set weights (get_or order k 0) w ∙ before.0,
    weighs_more design distinct finite m weights order k (get_or order k 0) w below refl inside count whole before.1
        (weighed ∙ ap₂ (λ symbols ws. min (weight_of (weight_by symbols ws) (slice_get design (get_or order k 0))) m) (symbols_stored modules) same),
  )
    where
      count : length weights ≡ length design
      count = before.0 ∙ sym (length-map modules numbered_module)

      inside : get_or order k 0 < length weights
      inside = let bound : get_or order k 0 < length modules = node_within order k whole below in let size : length weights ≡ length modules = before.0 in omega arith

  pub all_weigh : (weights order : List ℕ) (k : ℕ) → IsWhole (call_lists design) order → length order ≤ k → ((v : ℕ) → In v (take k order) → Weighs design weights m v)
      → (i : ℕ) → i < length modules → Weighs design weights m i
  all_weigh weights order k whole all each i below =
      each i (subst (In i) (sym (take_all k order all)) (whole.all i (let size : length (call_lists design) ≡ length modules = count_modules in omega arith)))

  pub whole_order : HasDistinctSymbols design → HasNoRecursion design → (lists : List (List ℕ)) (n : ℕ) → lists ≡ call_lists design → (placed : List Bool) (nodes listed : List ℕ) → IsOrder lists placed nodes
      → length lists ≡ n → ((v : ℕ) → v < n → MustWait lists placed v) → listed ≡ nodes → IsWhole (call_lists design) listed
  whole_order distinct finite lists n are placed nodes listed order size longest same =
      subst (IsWhole (call_lists design)) (sym same)
      (order_whole (call_lists design) placed nodes order'
      (acyclic_complete (call_lists design) placed nodes order' (λ v below. subst (λ ls. MustWait ls placed v) are (longest v (let e : length lists ≡ length (call_lists design) = ap length are in omega arith)))
      (acyclic_numbers design distinct finite)))
    where
      order' : IsOrder (call_lists design) placed nodes
      order' = subst (λ ls. IsOrder ls placed nodes) are order

  pub large_answer : 2 ^ 28 < m → (weights slice : List ℕ) → slice ≡ weights → ((i : ℕ) → i < length modules → Weighs design weights m i) → length weights ≡ length modules
      → (answer : Option ℕ) → FindsNumber (λ i. 2 ^ 28 < slice_index slice i) answer → FindsNumber (IsTooLargeAt design) answer
  large_answer limit weights slice same each count answer found =
      large_found design weights m limit (λ i below. each i (let size : length design ≡ length modules = length-map modules numbered_module in omega arith))
      (count ∙ sym (length-map modules numbered_module)) answer (subst (λ ws. FindsNumber (λ i. 2 ^ 28 < slice_index ws i) answer) same found)
