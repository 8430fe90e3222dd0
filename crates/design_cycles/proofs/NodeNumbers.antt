-- Nodes of values: each value that has one stands there, and chains of the graph are chains of wires.
use Rattle.std.proofs.Common.{◌≡◌, ◌⊎◌, ℕ, zero, suc, ◌+◌, ◌-◌, ◌<◌, ◌≤◌, Bool, true, false, cond, nat_lt, List, [], ◌∷◌, ◌++◌, length, slice_get, Option, Some, None, option_map, refl, sym, ap, subst, ◌∙◌, inl, inr, arith}
use Rattle.std.specs.Option.{option_to_list}
use Rattle.std.proofs.lemmas.Option.{slice_get-map, slice_get_within, get_or_from_slice_get}
use Rattle.std.proofs.lemmas.Bool.Decides.{nat_tests}
use Rattle.wiring.specs.Wiring.{In, Chain}
use Rattle.wiring.proofs.Lists.{slice_get-append_left, slice_get-append_past}
use Rattle.wiring.proofs.Members.{In-append_left, In-append_right, In-append_cases}
use Rattle.hw_model.specs.Types.{Name, HwType}
use Rattle.hw_model.specs.Kinds.{Instance}
use Rattle.hw_model.specs.Design.{Ref, Op, OpResult, instance_in, is_register, is_output_op, result_type}
use Rattle.hw_model.specs.Design.Ref.{port, result, undefined}
use Rattle.wiring.proofs.Options.{option_map_some}
use Rattle.graphs.specs.Graphs.{edges}
use Rattle.design_cycles.specs.Local.{operands_at, where_typed, op_wires, result_wires, wires}
use Rattle.design_cycles.specs.Nodes.{size_by, size_in, sizes_in, node_at, node_ref, nodes_in, port_refs, op_refs, result_refs, body_refs, table_by, node_needs, body_lists}
use Rattle.graphs.proofs.Marking.{edges_within}

-- ---- what stands at a node

length-port_refs : (p n : ℕ) → length (port_refs p n) ≡ n
length-port_refs p zero = refl
length-port_refs p (suc n) = ap suc (length-port_refs (suc p) n)

port_at : (p n k : ℕ) → k < n → slice_get (port_refs p n) k ≡ Some (port (p + k))
port_at p zero k below = absurd (omega arith)
port_at p (suc n) zero below = let e : p ≡ p + 0 = omega arith in ap (λ m. Some (port m)) e
port_at p (suc n) (suc k) below = port_at (suc p) n k (omega arith) ∙ (let e : suc p + k ≡ p + suc k = omega arith in ap (λ m. Some (port m)) e)

pub length-op_refs : (j k n : ℕ) → length (op_refs j k n) ≡ n
length-op_refs j k zero = refl
length-op_refs j k (suc n) = ap suc (length-op_refs j (suc k) n)

op_at_node : (j k n i : ℕ) → i < n → slice_get (op_refs j k n) i ≡ Some (result j (k + i))
op_at_node j k zero i below = absurd (omega arith)
op_at_node j k (suc n) zero below = let e : k ≡ k + 0 = omega arith in ap (λ m. Some (result j m)) e
op_at_node j k (suc n) (suc i) below = op_at_node j (suc k) n i (omega arith) ∙ (let e : suc k + i ≡ k + suc i = omega arith in ap (λ m. Some (result j m)) e)

-- a node of results is after the ports
node_from : (start : ℕ) (ns : List ℕ) (j k v : ℕ) → node_at start ns j k ≡ Some v → start ≤ v
node_from start [] j k v is = cc
node_from start (n ∷ ns) zero k v is = go (nat_lt k n) is
  where
    go : (b : Bool) → cond b (Some (start + k)) None ≡ Some v → start ≤ v
    go true at = let e : start + k ≡ v = cc in omega arith
    go false at = cc
node_from start (n ∷ ns) (suc j) k v is = let rest : start + n ≤ v = node_from (start + n) ns j k v is in omega arith

below_of : (k n : ℕ) → nat_lt k n ≡ true → k < n
below_of k n is = grind (arith, nat_tests)

result_at_node : (start i : ℕ) (ns : List ℕ) (j k v : ℕ) → node_at start ns j k ≡ Some v → slice_get (result_refs i ns) (v - start) ≡ Some (result (i + j) k)
result_at_node start i [] j k v is = cc
result_at_node start i (n ∷ ns) zero k v is = go (nat_lt k n) refl is
  where
    go : (b : Bool) → nat_lt k n ≡ b → cond b (Some (start + k)) None ≡ Some v → slice_get (op_refs i 0 n ++ result_refs (suc i) ns) (v - start) ≡ Some (result (i + 0) k)
    go true test at =
        let e : start + k ≡ v = cc in
        let below : k < n = below_of k n test in
        let offset : v - start ≡ k = omega arith in
        let size : length (op_refs i 0 n) ≡ n = length-op_refs i 0 n in
        let number : 0 + k ≡ k = omega arith in
        let position : i ≡ i + 0 = omega arith in
        ap (slice_get (op_refs i 0 n ++ result_refs (suc i) ns)) offset
        ∙ slice_get-append_left (op_refs i 0 n) (result_refs (suc i) ns) k (omega arith)
        ∙ op_at_node i 0 n k below ∙ ap (λ m. Some (result i m)) number ∙ ap (λ m. Some (result m k)) position
    go false test at = cc
result_at_node start i (n ∷ ns) (suc j) k v is =
    let rest : slice_get (result_refs (suc i) ns) (v - (start + n)) ≡ Some (result (suc i + j) k) = result_at_node (start + n) (suc i) ns j k v is in
    let bound : start + n ≤ v = node_from (start + n) ns j k v is in
    let size : length (op_refs i 0 n) ≡ n = length-op_refs i 0 n in
    let offset : v - start - length (op_refs i 0 n) ≡ v - (start + n) = omega arith in
    let position : suc i + j ≡ i + suc j = omega arith in
    slice_get-append_past (op_refs i 0 n) (result_refs (suc i) ns) (v - start) (omega arith)
    ∙ ap (slice_get (result_refs (suc i) ns)) offset ∙ rest ∙ ap (λ m. Some (result m k)) position

pub ref_at_node : (ports : ℕ) (sizes : List ℕ) (r : Ref) (v : ℕ) → node_ref ports sizes r ≡ Some v → slice_get (body_refs ports sizes) v ≡ Some r
ref_at_node ports sizes (port p) v is = go (nat_lt p ports) refl is
  where
    go : (b : Bool) → nat_lt p ports ≡ b → cond b (Some p) None ≡ Some v → slice_get (body_refs ports sizes) v ≡ Some (port p)
    go true test at =
        let e : p ≡ v = cc in
        let below : p < ports = below_of p ports test in
        let size : length (port_refs 0 ports) ≡ ports = length-port_refs 0 ports in
        let number : 0 + p ≡ p = omega arith in
        ap (slice_get (body_refs ports sizes)) (sym e) ∙ slice_get-append_left (port_refs 0 ports) (result_refs 0 sizes) p (omega arith)
        ∙ port_at 0 ports p below ∙ ap (λ m. Some (port m)) number
    go false test at = cc
ref_at_node ports sizes (result j k) v is =
    let bound : ports ≤ v = node_from ports sizes j k v is in
    let size : length (port_refs 0 ports) ≡ ports = length-port_refs 0 ports in
    let offset : v - length (port_refs 0 ports) ≡ v - ports = omega arith in
    let position : 0 + j ≡ j = omega arith in
    slice_get-append_past (port_refs 0 ports) (result_refs 0 sizes) v (omega arith)
    ∙ ap (slice_get (result_refs 0 sizes)) offset ∙ result_at_node ports 0 sizes j k v is ∙ ap (λ m. Some (result m k)) position
ref_at_node ports sizes undefined v is = cc

-- ---- nodes of values

pub In-nodes : (node : Ref → Option ℕ) (r : Ref) (v : ℕ) (rs : List Ref) → In r rs → node r ≡ Some v → In v (nodes_in node rs)
In-nodes node r v [] here is = absurd here
In-nodes node r v (s ∷ rs) (inl same) is =
    In-append_left v (option_to_list (node s)) (nodes_in node rs) (subst (λ o. In v (option_to_list o)) (sym (ap node (sym same) ∙ is)) (inl refl))
In-nodes node r v (s ∷ rs) (inr here) is = In-append_right v (option_to_list (node s)) (nodes_in node rs) (In-nodes node r v rs here is)

pub from_In-nodes : (node : Ref → Option ℕ) (v : ℕ) (rs : List Ref) → In v (nodes_in node rs) → (r : Ref) × In r rs × (node r ≡ Some v)
from_In-nodes node v [] here = absurd here
from_In-nodes node v (s ∷ rs) here = go (In-append_cases v (option_to_list (node s)) (nodes_in node rs) here) (from_In-nodes node v rs)
  where
    first : (o : Option ℕ) → node s ≡ o → In v (option_to_list o) → (r : Ref) × In r (s ∷ rs) × (node r ≡ Some v)
    first None is never = absurd never
    first (Some w) is (inl same) = (s, inl refl, is ∙ ap Some (sym same))
    first (Some w) is (inr never) = absurd never

    go : In v (option_to_list (node s)) ⊎ In v (nodes_in node rs) → (In v (nodes_in node rs) → (r : Ref) × In r rs × (node r ≡ Some v)) → (r : Ref) × In r (s ∷ rs) × (node r ≡ Some v)
    go (inl here) rest = first (node s) refl here
    go (inr here) rest = let found = rest here in (found.0, inr found.1, found.2)

module _ (ports : ℕ) (bit_sets : Name → List (List ℕ)) (os : List Op) where
  abbrev node : Ref → Option ℕ
  node = node_ref ports (sizes_in bit_sets os)

  abbrev local : Ref → List Ref
  local = wires (table_by bit_sets) os

  abbrev lists : List (List ℕ)
  lists = body_lists ports bit_sets os

  node_edges : (r : Ref) (v : ℕ) → node r ≡ Some v → edges lists v ≡ nodes_in node (local r)
  node_edges r v is =
      get_or_from_slice_get lists v (nodes_in node (local r)) []
      (slice_get-map (node_needs ports bit_sets os) (body_refs ports (sizes_in bit_sets os)) v
      ∙ ap (option_map (node_needs ports bit_sets os)) (ref_at_node ports (sizes_in bit_sets os) r v is))

  -- two values have different nodes
  node_apart : (r s : Ref) (v : ℕ) → node r ≡ Some v → node s ≡ Some v → r ≡ s
  node_apart r s v is also =
      let e : Some r ≡ Some s = sym (ref_at_node ports (sizes_in bit_sets os) r v is) ∙ ref_at_node ports (sizes_in bit_sets os) s v also in cc

  -- what needs another has a node
  has_node : (start : ℕ) (xs : List Op) (j k : ℕ) (b : Ref) → In b (result_wires (table_by bit_sets) k (slice_get xs j)) → (v : ℕ) × (node_at start (sizes_in bit_sets xs) j k ≡ Some v)
  has_node start [] j k b here = absurd here
  has_node start (o ∷ xs) (suc j) k b here = has_node (start + size_in bit_sets o) xs j k b here
  has_node start (o ∷ xs) zero k b here = go (nat_lt k (size_in bit_sets o)) refl
    where
      within : (size_in bit_sets o ≤ k) → ⊥
      within past = by_register (is_register o) here past
        where
          by_type : (t : Option HwType) → result_type o k ≡ t → In b (where_typed t o.operands) → length o.results ≤ k → ⊥
          by_type None typed never low = never
          by_type (Some t) typed named low =
              let found = option_map_some (λ (x : OpResult). x.type) (slice_get o.results k) typed in
              let bound : k < length o.results = slice_get_within o.results k found.0 found.1 in omega arith

          by_output : (c : Bool) → In b (cond c [] (where_typed (result_type o k) o.operands)) → cond c 0 (length o.results) ≤ k → ⊥
          by_output true never low = never
          by_output false named low = by_type (result_type o k) refl named low

          by_picked : (xs : List ℕ) → In b (operands_at o.operands xs) → (x : ℕ) × In x xs
          by_picked [] never = absurd never
          by_picked (x ∷ xs) named = (x, inl refl)

          by_instance : (i : Option Instance) → In b (op_wires (table_by bit_sets) o k i) → size_by bit_sets o i ≤ k → ⊥
          by_instance None named low = by_output (is_output_op o) named low
          by_instance (Some i) named low =
              let some = by_picked (table_by bit_sets i.symbol k) named in
              let bound : k < length (bit_sets i.symbol) = edges_within (bit_sets i.symbol) k some.0 some.1 in omega arith

          by_register : (c : Bool) → In b (cond c [] (op_wires (table_by bit_sets) o k (instance_in o.kind))) → cond c 0 (size_by bit_sets o (instance_in o.kind)) ≤ k → ⊥
          by_register true never low = never
          by_register false named low = by_instance (instance_in o.kind) named low

      go : (c : Bool) → nat_lt k (size_in bit_sets o) ≡ c → (v : ℕ) × (cond c (Some (start + k)) None ≡ Some v)
      go true test = (start + k, refl)
      go false test = absurd (within (past_of k (size_in bit_sets o) test))
        where
          past_of : (k n : ℕ) → nat_lt k n ≡ false → n ≤ k
          past_of k n is = grind (arith, nat_tests)

  pub needing_node : (a b : Ref) → In b (local a) → (v : ℕ) × (node a ≡ Some v)
  needing_node (port p) b never = absurd never
  needing_node (result j k) b here = has_node ports os j k b here
  needing_node undefined b never = absurd never

  -- a chain of wires is one of nodes
  pub nodes_chain : (n : ℕ) (a b : Ref) (v w : ℕ) → Chain local n a b → node a ≡ Some v → node b ≡ Some w → Chain (edges lists) n v w
  nodes_chain zero a b v w same is also = let e : Some v ≡ Some w = sym is ∙ ap node same ∙ also in cc
  nodes_chain (suc n) a b v w (c, need, chain) is also =
      let at = next n c chain in
      (at.0, subst (In at.0) (sym (node_edges a v is)) (In-nodes node c at.0 (local a) need at.1), nodes_chain n c b at.0 w chain at.1 also)
    where
      next : (n : ℕ) (c : Ref) → Chain local n c b → (x : ℕ) × (node c ≡ Some x)
      next zero c same = (w, ap node same ∙ also)
      next (suc n) c (e, named, rest) = needing_node c e named

  -- and a chain of nodes is one of wires
  pub wires_chain : (n : ℕ) (a b : Ref) (v w : ℕ) → Chain (edges lists) n v w → node a ≡ Some v → node b ≡ Some w → Chain local n a b
  wires_chain zero a b v w same is also = node_apart a b w (is ∙ ap Some same) also
  wires_chain (suc n) a b v w (x, need, chain) is also =
      let found = from_In-nodes node x (local a) (subst (In x) (node_edges a v is) need) in
      (found.0, found.1, wires_chain n found.0 b x w chain found.2 also)
