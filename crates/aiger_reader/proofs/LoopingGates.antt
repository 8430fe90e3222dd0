-- Gates that need themselves, by their places and by their variables.
use Rattle.std.proofs.Common.{◌≡◌, ◌⊎◌, ℕ, zero, suc, ◌+◌, ◌<◌, ◌≤◌, ◌&&◌, ◌^◌, Bool, true, false, List, [], ◌∷◌, map, length, slice_get, refl, sym, ap, subst, ◌∙◌, inl, inr, arith}
use Rattle.std.specs.Prelude.{Option, Some, None, nat_lt, nat_le}
use Rattle.std.proofs.lemmas.Bool.{ltb-true, leb-true}
use Rattle.std.proofs.lemmas.List.{length-map}
use Rattle.wiring.specs.Wiring.{In, Chain, Depends}
use Rattle.graphs.specs.Graphs.{edges}
use Rattle.graphs.proofs.Marking.{edges_within, chain_within}
use Rattle.aiger_laws.specs.declared.tree.AndGate.{AndGate}
use Rattle.aiger_laws.specs.Trees.{Aiger, variable}
use Rattle.aiger_laws.specs.Drivers.{Driver, nothing, input_bit, held_bit, gate_bit, driver, operands, joined, needs, GatesDrive, HasNoCycle}
use Rattle.aiger_laws.specs.Grammar.{IsOnCycle, IsFirstOnCycle}
use Rattle.aiger_laws.proofs.GateDrivers.{driving_gate}
use Rattle.aiger_reader.specs.declared.needs.GateNeeds.{GateNeeds}
use Rattle.aiger_reader.specs.Searched.{place_in, places, lists_in, rank_of, is_falling_at, are_falling, goes_down, IsLooping, IsFirstLooping}

-- ---- places

-- what the gate at a place needs
edges_at : (d : ℕ → Driver) (gs : List AndGate) (k : ℕ) (g : AndGate) → slice_get gs k ≡ Some g → edges (map (places d) gs) k ≡ places d g
edges_at d [] k g is = absurd (let w : ⊥ = cc in w)
edges_at d (x ∷ xs) zero g is = ap (λ (o : Option AndGate). places d (in_some o)) is
  where
    in_some : Option AndGate → AndGate
    in_some (Some y) = y
    in_some None = g
edges_at d (x ∷ xs) (suc k) g is = edges_at d xs k g is

gate_there : (gs : List AndGate) (k : ℕ) → k < length gs → (g : AndGate) × (slice_get gs k ≡ Some g)
gate_there [] k below = absurd (omega (arith, below))
gate_there (x ∷ xs) zero below = (x, refl)
gate_there (x ∷ xs) (suc k) below = gate_there xs k (omega (arith, below))

gate_within : (gs : List AndGate) (k : ℕ) (g : AndGate) → slice_get gs k ≡ Some g → k < length gs
gate_within [] k g is = absurd (let w : ⊥ = cc in w)
gate_within (x ∷ xs) zero g is = omega arith
gate_within (x ∷ xs) (suc k) g is = let rest : k < length xs = gate_within xs k g is in omega (arith, rest)

-- a driver whose place is that of a gate is that gate
place_gate : (e : Driver) (j : ℕ) → j < 4294967295 → j ≡ place_in e → e ≡ gate_bit j
place_gate (gate_bit k) j below is = ap gate_bit (sym is)
place_gate (input_bit k) j below is = absurd (omega (arith, below, is))
place_gate (held_bit k) j below is = absurd (omega (arith, below, is))
place_gate nothing j below is = absurd (omega (arith, below, is))

-- what needs something is driven by a gate
need_gate : (gs : List AndGate) (e : Driver) (w : ℕ) → In w (map variable (joined gs e)) → (k : ℕ) × (e ≡ gate_bit k)
need_gate gs (gate_bit k) w need = (k, refl)
need_gate gs (input_bit k) w need = absurd need
need_gate gs (held_bit k) w need = absurd need
need_gate gs nothing w need = absurd need

module _ (t : Aiger) (d : ℕ → Driver) (knows : (v : ℕ) → d v ≡ driver t v) (drives : GatesDrive t) (few : length t.gates < 2 ^ 31) where
  -- the places that the tree's gates need
  abbrev lists : List (List ℕ)
  lists = map (places d) t.gates

  count : length lists ≡ length t.gates
  count = length-map t.gates (places d)

  -- a variable that the gate at the place drives needs the gate's operands
  needs_at : (v k : ℕ) (g : AndGate) → driver t v ≡ gate_bit k → slice_get t.gates k ≡ Some g → needs t v ≡ variable g.left ∷ variable g.right ∷ []
  needs_at v k g is at = ap (λ (e : Driver). map variable (joined t.gates e)) is ∙ ap (λ (o : Option AndGate). map variable (operands o)) at

  -- a need of a variable is a need of its gate
  step_forth : (v k w : ℕ) → driver t v ≡ gate_bit k → In w (needs t v) → In (place_in (driver t w)) (edges lists k)
  step_forth v k w is need =
      let gate = driving_gate t v k is in
      subst (In (place_in (driver t w))) (sym (edges_at d t.gates k gate.0 gate.1)) (go gate.0 (subst (In w) (needs_at v k gate.0 is gate.1) need))
    where
      go : (g : AndGate) → In w (variable g.left ∷ variable g.right ∷ []) → In (place_in (driver t w)) (places d g)
      go g (inl same) = inl (ap (λ (x : ℕ). place_in (driver t x)) same ∙ ap place_in (sym (knows (variable g.left))))
      go g (inr (inl same)) = inr (inl (ap (λ (x : ℕ). place_in (driver t x)) same ∙ ap place_in (sym (knows (variable g.right)))))
      go g (inr (inr never)) = absurd never

  -- a need of a gate is a need of its variable
  step_back : (v k j : ℕ) → driver t v ≡ gate_bit k → In j (edges lists k) → j < length t.gates → (w : ℕ) × In w (needs t v) × (driver t w ≡ gate_bit j)
  step_back v k j is need below =
      let gate = driving_gate t v k is in
      go gate.0 (needs_at v k gate.0 is gate.1) (subst (In j) (edges_at d t.gates k gate.0 gate.1) need)
    where
      go : (g : AndGate) → needs t v ≡ variable g.left ∷ variable g.right ∷ [] → In j (places d g) → (w : ℕ) × In w (needs t v) × (driver t w ≡ gate_bit j)
      go g all (inl same) =
          (variable g.left, subst (In (variable g.left)) (sym all) (inl refl), sym (knows (variable g.left)) ∙ place_gate (d (variable g.left)) j (omega (arith, below, few)) same)
      go g all (inr (inl same)) =
          (variable g.right, subst (In (variable g.right)) (sym all) (inr (inl refl)), sym (knows (variable g.right)) ∙ place_gate (d (variable g.right)) j (omega (arith, below, few)) same)
      go g all (inr (inr never)) = absurd never

  same_place : (j k v : ℕ) → driver t v ≡ gate_bit j → driver t v ≡ gate_bit k → j ≡ k
  same_place j k v first second = ap place_in (sym first ∙ second)

  -- what leads to what a gate drives is driven by a gate
  driven_along : (m w u j : ℕ) → Chain (needs t) m w u → driver t u ≡ gate_bit j → (i : ℕ) × (driver t w ≡ gate_bit i)
  driven_along zero w u j same is = (j, ap (driver t) same ∙ is)
  driven_along (suc m) w u j (x, need, chain) is = need_gate t.gates (driver t w) x need

  chain_forth : (m k v j u : ℕ) → driver t v ≡ gate_bit k → driver t u ≡ gate_bit j → Chain (needs t) m v u → Chain (edges lists) m k j
  chain_forth zero k v j u from to same = same_place k j u (sym (ap (driver t) same) ∙ from) to
  chain_forth (suc m) k v j u from to (w, need, chain) =
      let next = driven_along m w u j chain to in
      (next.0, subst (λ (i : ℕ). In i (edges lists k)) (ap place_in next.1) (step_forth v k w from need), chain_forth m next.0 w j u next.1 to chain)

  chain_back : (m k v j : ℕ) → driver t v ≡ gate_bit k → j < length t.gates → Chain (edges lists) m k j → (u : ℕ) × Chain (needs t) m v u × (driver t u ≡ gate_bit j)
  chain_back zero k v j from below same = (v, refl, from ∙ ap gate_bit same)
  chain_back (suc m) k v j from below (i, need, chain) =
      let inside : i < length t.gates = subst (λ (n : ℕ). i < n) count (chain_within lists m i j chain (subst (λ (n : ℕ). j < n) (sym count) below)) in
      let step = step_back v k i from need inside in
      let rest = chain_back m i step.0 j step.2 below chain in
      (rest.0, (step.0, step.1, rest.1), rest.2)

  -- a variable that needs itself is that of a gate that loops
  loops : (v k : ℕ) → driver t v ≡ gate_bit k → Depends (needs t) v v → IsLooping lists k
  loops v k is (m, (w, need, chain)) =
      let next = driven_along m w v k chain is in
      (m, next.0, subst (λ (i : ℕ). In i (edges lists k)) (ap place_in next.1) (step_forth v k w is need), chain_forth m next.0 w k v next.1 is chain)

  pub looping_from : (k : ℕ) → IsOnCycle t k → IsLooping lists k
  looping_from k (g, at, depends) = loops (variable g.literal) k (drives k g at) depends

  pub on_cycle_from : (k : ℕ) → IsLooping lists k → IsOnCycle t k
  on_cycle_from k (m, i, need, chain) =
      let below : k < length t.gates = subst (λ (n : ℕ). k < n) count (edges_within lists k i need) in
      let inside : i < length t.gates = subst (λ (n : ℕ). i < n) count (chain_within lists m i k chain (edges_within lists k i need)) in
      let gate = gate_there t.gates k below in
      let is : driver t (variable gate.0.literal) ≡ gate_bit k = drives k gate.0 gate.1 in
      let step = step_back (variable gate.0.literal) k i is need inside in
      let rest = chain_back m i step.0 k step.2 below chain in
      let last = driving_gate t rest.0 k rest.2 in
      let same : rest.0 ≡ variable gate.0.literal = sym last.2 ∙ ap (λ (o : Option AndGate). variable (in_some gate.0 o).literal) (sym last.1 ∙ gate.1) in
      (gate.0, gate.1, (m, (step.0, step.1, subst (Chain (needs t) m step.0) same rest.1)))
    where
      in_some : AndGate → Option AndGate → AndGate
      in_some g (Some y) = y
      in_some g None = g

  pub acyclic_from : ((j : ℕ) → IsLooping lists j → ⊥) → HasNoCycle t
  acyclic_from none a (m, (w, need, chain)) =
      let gate = need_gate t.gates (driver t a) w need in
      none gate.0 (loops a gate.0 gate.1 (m, (w, need, chain)))

  pub first_from : (k : ℕ) → IsFirstLooping lists k → IsFirstOnCycle t k
  first_from k is = record { on = on_cycle_from k is.on; first = λ j below on. is.first j below (looping_from j on) }

-- ---- ranks

both_true : (a b : Bool) → a && b ≡ true → (a ≡ true) × (b ≡ true)
both_true true b is = (refl, is)
both_true false b is = cc

-- ranks fall along what gates need
falls_along : (ranks : List ℕ) (i : ℕ) (ns : List GateNeeds) → are_falling ranks i ns ≡ true → (a b : ℕ) → In b (edges (lists_in ns) a) → rank_of ranks b ≤ rank_of ranks (i + a)
falls_along ranks i [] is a b here = absurd here
falls_along ranks i (n ∷ ns) is zero b here =
    let parts = both_true (is_falling_at ranks i n) (are_falling ranks (i + 1) ns) is in
    let sides = both_true (nat_le (rank_of ranks n.left) (rank_of ranks i)) (nat_le (rank_of ranks n.right) (rank_of ranks i)) parts.0 in
    go sides.0 sides.1 here
  where
    go : nat_le (rank_of ranks n.left) (rank_of ranks i) ≡ true → nat_le (rank_of ranks n.right) (rank_of ranks i) ≡ true → In b (n.left ∷ n.right ∷ []) → rank_of ranks b ≤ rank_of ranks (i + 0)
    go left right (inl same) = subst (λ (x : ℕ). rank_of ranks x ≤ rank_of ranks (i + 0)) (sym same) (at_zero (leb-true (rank_of ranks n.left) (rank_of ranks i) left))
      where
        at_zero : rank_of ranks n.left ≤ rank_of ranks i → rank_of ranks n.left ≤ rank_of ranks (i + 0)
        at_zero low = let e : i ≡ i + 0 = omega arith in subst (λ (x : ℕ). rank_of ranks n.left ≤ rank_of ranks x) e low
    go left right (inr (inl same)) = subst (λ (x : ℕ). rank_of ranks x ≤ rank_of ranks (i + 0)) (sym same) (at_zero (leb-true (rank_of ranks n.right) (rank_of ranks i) right))
      where
        at_zero : rank_of ranks n.right ≤ rank_of ranks i → rank_of ranks n.right ≤ rank_of ranks (i + 0)
        at_zero low = let e : i ≡ i + 0 = omega arith in subst (λ (x : ℕ). rank_of ranks n.right ≤ rank_of ranks x) e low
    go left right (inr (inr never)) = absurd never
falls_along ranks i (n ∷ ns) is (suc a) b here =
    let parts = both_true (is_falling_at ranks i n) (are_falling ranks (i + 1) ns) is in
    let e : i + 1 + a ≡ i + suc a = omega arith in
    subst (λ (x : ℕ). rank_of ranks b ≤ rank_of ranks x) e (falls_along ranks (i + 1) ns parts.1 a b here)

chain_falls : (ranks : List ℕ) (lists : List (List ℕ)) → ((a b : ℕ) → In b (edges lists a) → rank_of ranks b ≤ rank_of ranks a) → (m a b : ℕ) → Chain (edges lists) m a b → rank_of ranks b ≤ rank_of ranks a
chain_falls ranks lists falls zero a b same = subst (λ (x : ℕ). rank_of ranks x ≤ rank_of ranks a) same (omega arith)
chain_falls ranks lists falls (suc m) a b (c, need, chain) =
    let first : rank_of ranks c ≤ rank_of ranks a = falls a c need in
    let rest : rank_of ranks b ≤ rank_of ranks c = chain_falls ranks lists falls m c b chain in
    omega (arith, first, rest)

-- what a gate needs, by its place
pub needs_there : (ns : List GateNeeds) (k : ℕ) (n : GateNeeds) → slice_get ns k ≡ Some n → edges (lists_in ns) k ≡ n.left ∷ n.right ∷ []
needs_there [] k n is = absurd (let w : ⊥ = cc in w)
needs_there (x ∷ xs) zero n is = ap (λ (o : Option GateNeeds). (in_some o).left ∷ (in_some o).right ∷ []) is
  where
    in_some : Option GateNeeds → GateNeeds
    in_some (Some y) = y
    in_some None = n
needs_there (x ∷ xs) (suc k) n is = needs_there xs k n is

-- a gate that needs lower ranks alone does not need itself
pub down_is_out : (ranks : List ℕ) (ns : List GateNeeds) (k : ℕ) (n : GateNeeds) → are_falling ranks 0 ns ≡ true → edges (lists_in ns) k ≡ n.left ∷ n.right ∷ [] → goes_down ranks k n ≡ true
    → IsLooping (lists_in ns) k → ⊥
down_is_out ranks ns k n falling all down (m, i, need, chain) =
    let falls = falls_along ranks 0 ns falling in
    let low : rank_of ranks k ≤ rank_of ranks i =
    chain_falls ranks (lists_in ns) (λ a b here. let e : 0 + a ≡ a = omega arith in subst (λ (x : ℕ). rank_of ranks b ≤ rank_of ranks x) e (falls a b here)) m i k chain in
    let sides = both_true (nat_lt (rank_of ranks n.left) (rank_of ranks k)) (nat_lt (rank_of ranks n.right) (rank_of ranks k)) down in
    go low sides.0 sides.1 (subst (In i) all need)
  where
    go : rank_of ranks k ≤ rank_of ranks i → nat_lt (rank_of ranks n.left) (rank_of ranks k) ≡ true → nat_lt (rank_of ranks n.right) (rank_of ranks k) ≡ true → In i (n.left ∷ n.right ∷ []) → ⊥
    go low left right (inl same) = omega (arith, low, ltb-true (rank_of ranks n.left) (rank_of ranks k) left, ap (rank_of ranks) same)
    go low left right (inr (inl same)) = omega (arith, low, ltb-true (rank_of ranks n.right) (rank_of ranks k) right, ap (rank_of ranks) same)
    go low left right (inr (inr never)) = never
