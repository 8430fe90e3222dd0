-- What gives the variables of a circuit's tree their bits, and that there is no cycle.
use Rattle.std.proofs.Common.{◌≡◌, ℕ, zero, suc, ◌+◌, ◌*◌, ◌/◌, ◌<◌, ◌≤◌, ◌⊎◌, Bool, true, false, cond, List, [], ◌∷◌, map, length, slice_get, Option, Some, None, refl, sym, ap, ap₂, subst, ◌∙◌, inl, inr, arith}
use Rattle.wiring.specs.Wiring.{In, FallsAlong}
use Rattle.wiring.proofs.Chains.{IsAcyclic-falling}
use Rattle.wiring.proofs.Lists.{slice_get_some}
use Rattle.gates.specs.declared.signal.Pin.{Pin}
use Rattle.gates.specs.declared.signal.Gate.{Gate}
use Rattle.gates.specs.declared.signal.Signal.{Signal}
use Rattle.gates.specs.Order.{IsGateWithin, AreInOrder}
use Rattle.aiger_laws.specs.Trees.{Aiger, variable}
use Rattle.aiger_laws.specs.Drivers.{Driver, nothing, input_bit, held_bit, gate_bit, place_of, driver_by, driver, latch_literals, gate_literals, operands, joined, needs, HasNoCycle}
use Rattle.aiger_circuits.specs.CircuitTrees.{pin_literal, literals_from, latches_from, gates_from, and_gate, circuit_tree}
use Rattle.aiger_circuits.proofs.NumberedPlaces.{place_before, place_after, placed, latch_literals_are, gate_literals_are, gate_at, Standing, standing}
use Rattle.aiger_circuits.proofs.NumberedPlaces.Standing.{nowhere, among_inputs, among_latches, among_gates}

-- the variable of a pin's literal
pub pin_variable : (p : Pin) → variable (pin_literal p) ≡ p.variable
pin_variable p = go p.positive
  where
    go : (b : Bool) → (2 * p.variable + cond b 0 1) / 2 ≡ p.variable
    go true = omega arith
    go false = omega arith

-- a gate's pins are of variables before its own
pub gate_within : (n : ℕ) (gs : List Gate) (k : ℕ) (g : Gate) → AreInOrder n gs → slice_get gs k ≡ Some g → IsGateWithin (n + k) g
gate_within n [] k g order at = absurd (let no : ⊥ = cc in no)
gate_within n (x ∷ xs) zero g order at =
    let same : x ≡ g = cc in
    let e : n ≡ n + 0 = omega arith in
    subst (λ (m : ℕ). IsGateWithin m g) e (subst (IsGateWithin n) same order.0)
gate_within n (x ∷ xs) (suc k) g order at =
    let e : suc n + k ≡ n + suc k = omega arith in
    subst (λ (m : ℕ). IsGateWithin m g) e (gate_within (suc n) xs k g order.1 at)

module _ (inputs : ℕ) (outputs nexts : List Signal) (gates : List Gate) where
  abbrev tree : Aiger
  tree = circuit_tree inputs outputs nexts gates

  -- the driver of a variable, by its places among what is numbered
  places : (v : ℕ) → driver tree v ≡ driver_by (place_of v (literals_from 1 inputs)) (place_of v (literals_from (suc inputs) (length nexts))) (place_of v (literals_from (suc (inputs + length nexts)) (length gates)))
  unfolding driver circuit_tree
  places v =
      ap (λ (ls : List ℕ). driver_by (place_of v (literals_from 1 inputs)) (place_of v ls) (place_of v (gate_literals (gates_from (suc (inputs + length nexts)) gates)))) (latch_literals_are (suc inputs) nexts)
      ∙ ap (λ (ls : List ℕ). driver_by (place_of v (literals_from 1 inputs)) (place_of v (literals_from (suc inputs) (length nexts))) (place_of v ls)) (gate_literals_are (suc (inputs + length nexts)) gates)

  -- three places that are known
  by_places : (v : ℕ) (i l g : Option ℕ) → place_of v (literals_from 1 inputs) ≡ i → place_of v (literals_from (suc inputs) (length nexts)) ≡ l
      → place_of v (literals_from (suc (inputs + length nexts)) (length gates)) ≡ g → driver tree v ≡ driver_by i l g
  by_places v i l g at_input at_latch at_gate =
      places v ∙ ap (λ (o : Option ℕ). driver_by o (place_of v (literals_from (suc inputs) (length nexts))) (place_of v (literals_from (suc (inputs + length nexts)) (length gates)))) at_input
      ∙ ap₂ (driver_by i) at_latch at_gate

  pub drives_nothing : (v : ℕ) → (v ≡ 0) ⊎ (inputs + length nexts + length gates < v) → driver tree v ≡ nothing
  drives_nothing v (inl zero_is) =
      by_places v None None None (place_before v 1 inputs (omega (arith, zero_is))) (place_before v (suc inputs) (length nexts) (omega (arith, zero_is)))
      (place_before v (suc (inputs + length nexts)) (length gates) (omega (arith, zero_is)))
  drives_nothing v (inr past) =
      by_places v None None None (place_after v 1 inputs (omega (arith, past))) (place_after v (suc inputs) (length nexts) (omega (arith, past)))
      (place_after v (suc (inputs + length nexts)) (length gates) (omega (arith, past)))

  pub drives_input : (k : ℕ) → k < inputs → driver tree (suc k) ≡ input_bit k
  drives_input k within =
      by_places (suc k) (Some k) None None (placed 1 inputs k (suc k) within (omega arith)) (place_before (suc k) (suc inputs) (length nexts) (omega (arith, within)))
      (place_before (suc k) (suc (inputs + length nexts)) (length gates) (omega (arith, within)))

  pub drives_latch : (k : ℕ) → k < length nexts → driver tree (suc (inputs + k)) ≡ held_bit k
  drives_latch k within =
      by_places (suc (inputs + k)) None (Some k) None (place_after (suc (inputs + k)) 1 inputs (omega arith)) (placed (suc inputs) (length nexts) k (suc (inputs + k)) within (omega arith))
      (place_before (suc (inputs + k)) (suc (inputs + length nexts)) (length gates) (omega (arith, within)))

  pub drives_gate : (k : ℕ) → k < length gates → driver tree (suc (inputs + length nexts + k)) ≡ gate_bit k
  drives_gate k within =
      by_places (suc (inputs + length nexts + k)) None None (Some k) (place_after (suc (inputs + length nexts + k)) 1 inputs (omega arith))
      (place_after (suc (inputs + length nexts + k)) (suc inputs) (length nexts) (omega arith)) (placed (suc (inputs + length nexts)) (length gates) k (suc (inputs + length nexts + k)) within (omega arith))

  -- what a gate joins
  pub gate_joins : (k : ℕ) (g : Gate) → slice_get gates k ≡ Some g → joined tree.gates (gate_bit k) ≡ pin_literal g.second ∷ pin_literal g.first ∷ []
  unfolding circuit_tree
  gate_joins k g at = ap operands (gate_at (suc (inputs + length nexts)) gates k g at)

  -- each gate needs variables before its own
  falls : AreInOrder (inputs + length nexts) gates → FallsAlong (needs tree) (λ v. v)
  falls order a b need = go (standing inputs (length nexts) (length gates) a)
    where
      by_driver : (v : ℕ) (d : Driver) → driver tree v ≡ d → In b (needs tree v) → In b (map variable (joined tree.gates d))
      by_driver v d is here = subst (λ (e : Driver). In b (map variable (joined tree.gates e))) is here

      of_gate : (k : ℕ) (g : Gate) → IsGateWithin (inputs + length nexts + k) g → In b (variable (pin_literal g.second) ∷ variable (pin_literal g.first) ∷ []) → b < suc (inputs + length nexts + k)
      of_gate k g within (inl same) = omega (arith, within.second.1, same, pin_variable g.second)
      of_gate k g within (inr (inl same)) = omega (arith, within.first.1, same, pin_variable g.first)
      of_gate k g within (inr (inr never)) = absurd never

      go : Standing inputs (length nexts) (length gates) a → b < a
      go (nowhere out) = absurd (by_driver a nothing (drives_nothing a out) need)
      go (among_inputs k within is) = absurd (by_driver (suc k) (input_bit k) (drives_input k within) (subst (λ (v : ℕ). In b (needs tree v)) is need))
      go (among_latches k within is) = absurd (by_driver (suc (inputs + k)) (held_bit k) (drives_latch k within) (subst (λ (v : ℕ). In b (needs tree v)) is need))
      go (among_gates k within is) =
          let found = slice_get_some gates k within in
          let here = by_driver (suc (inputs + length nexts + k)) (gate_bit k) (drives_gate k within) (subst (λ (v : ℕ). In b (needs tree v)) is need) in
          let less : b < suc (inputs + length nexts + k) =
          of_gate k found.0 (gate_within (inputs + length nexts) gates k found.0 order found.1) (subst (λ (ls : List ℕ). In b (map variable ls)) (gate_joins k found.0 found.1) here) in
          omega (arith, less, is)

  pub circuit_acyclic : AreInOrder (inputs + length nexts) gates → HasNoCycle tree
  circuit_acyclic order = IsAcyclic-falling (needs tree) (λ v. v) (falls order)
