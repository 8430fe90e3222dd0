-- The steps of a circuit's tree are what the circuit computes.
use Rattle.std.proofs.Common.{◌≡◌, ℕ, zero, suc, ◌+◌, ◌*◌, ◌/◌, ◌%◌, ◌-◌, ◌<◌, ◌≤◌, ◌⊎◌, ◌&&◌, ◌==◌, ◌↔◌, Bool, true, false, not, cond, List, [], ◌∷◌, ◌++◌, map, length, slice_get, slice_index_or, Option, Some, None, refl, sym, ap, ap₂}
use Rattle.std.proofs.Common.{subst, ◌∙◌, inl, inr, arith, length-append}
use Rattle.std.proofs.Math.Bool.{beq}
use Rattle.wiring.specs.Wiring.{In}
use Rattle.wiring.proofs.Lists.{slice_get_some}
use Rattle.gates.specs.declared.signal.Pin.{Pin}
use Rattle.gates.specs.declared.signal.Gate.{Gate}
use Rattle.gates.specs.declared.signal.Signal.{Signal}
use Rattle.gates.specs.declared.signal.Signal.TheVariants.{Fixed, Wire}
use Rattle.gates.specs.Signals.{pin_of, variable_bit, pin_bit, signal_bit, gate_bit as gate_value}
use Rattle.gates.specs.Order.{IsPinWithin, IsSignalWithin, IsGateWithin, AreInOrder, AreKept, evaluated}
use Rattle.gates.proofs.Evaluation.{signal_bit-append, evaluated_from, length-evaluated, evaluated_keeps}
use Rattle.gate_words.specs.Computes.{word_of}
use Rattle.operation_gates.specs.WordOrder.{AreSignalsWithin}
use Rattle.aiger_laws.specs.declared.tree.Latch.{Latch}
use Rattle.aiger_laws.specs.Trees.{Aiger, variable, is_negated, signed_bit}
use Rattle.aiger_laws.specs.Drivers.{Driver, nothing, input_bit, held_bit, gate_bit, driver, all_ones, driven, joined, needs, bit_of, IsSettled}
use Rattle.aiger_laws.specs.Steps.{literal_bit, given_bits, next_bits, Step, HasOneStep}
use Rattle.aiger_laws.proofs.OneStep.{steps_once}
use Rattle.aiger_circuits.specs.CircuitTrees.{pin_literal, signal_literal, latches_from, circuit_tree}
use Rattle.aiger_circuits.proofs.NumberedPlaces.{Standing, standing}
use Rattle.aiger_circuits.proofs.NumberedPlaces.Standing.{nowhere, among_inputs, among_latches, among_gates}
use Rattle.aiger_circuits.proofs.CircuitDrivers.{pin_variable, gate_within, drives_nothing, drives_input, drives_latch, drives_gate, gate_joins, circuit_acyclic}

-- ---- bits of lists

index_past : (m : List Bool) (i : ℕ) → length m ≤ i → slice_index_or m i false ≡ false
index_past [] i past = refl
index_past (b ∷ m) zero past = absurd (omega (arith, past))
index_past (b ∷ m) (suc i) past = index_past m i (omega (arith, past))

index_behind : (x q : List Bool) (k : ℕ) → slice_index_or (x ++ q) (length x + k) false ≡ slice_index_or q k false
index_behind [] q k = let e : 0 + k ≡ k = omega arith in ap (λ (i : ℕ). slice_index_or q i false) e
index_behind (b ∷ x) q k =
    let e : suc (length x) + k ≡ suc (length x + k) = omega arith in
    ap (λ (i : ℕ). slice_index_or (b ∷ x ++ q) i false) e ∙ index_behind x q k

-- the bit of a variable stands before its number
bit_of_next : (m : List Bool) (k : ℕ) → variable_bit m (suc k) ≡ slice_index_or m k false
bit_of_next m k = let e : suc k - 1 ≡ k = omega arith in ap (λ (i : ℕ). slice_index_or m i false) e

as_true : (a b : Bool) → beq a true ≡ beq b true → a ≡ b
as_true true true same = refl
as_true true false same = same
as_true false true same = same
as_true false false same = refl

-- further bits leave those that there are
variable_before : (xs ys : List Bool) (v : ℕ) → 1 ≤ v → v ≤ length xs → variable_bit (xs ++ ys) v ≡ variable_bit xs v
variable_before xs ys v some within = as_true (variable_bit (xs ++ ys) v) (variable_bit xs v) (signal_bit-append xs ys (Wire (pin_of v)) (some, within))

-- a gate that is kept has its bit
kept_at : (m : List Bool) (n : ℕ) (gs : List Gate) (k : ℕ) (g : Gate) → AreKept m n gs → slice_get gs k ≡ Some g → variable_bit m (suc (n + k)) ≡ gate_value m g
kept_at m n [] k g kept at = absurd (let no : ⊥ = cc in no)
kept_at m n (x ∷ xs) zero g kept at =
    let same : x ≡ g = cc in
    let e : suc (n + 0) ≡ suc n = omega arith in
    ap (variable_bit m) e ∙ kept.0 ∙ ap (gate_value m) same
kept_at m n (x ∷ xs) (suc k) g kept at =
    let e : suc (n + suc k) ≡ suc (suc n + k) = omega arith in
    ap (variable_bit m) e ∙ kept_at m (suc n) xs k g kept.1 at

-- ---- bits of literals

-- the bit of a variable; that of constants is 0
abbrev circuit_bit : List Bool → ℕ → Bool
circuit_bit m zero = false
circuit_bit m (suc v) = variable_bit m (suc v)

some_bit : (m : List Bool) (v : ℕ) → 1 ≤ v → circuit_bit m v ≡ variable_bit m v
some_bit m zero some = absurd (omega (arith, some))
some_bit m (suc v) some = refl

signed_pin : (p : Pin) (b : Bool) → signed_bit (pin_literal p) b ≡ beq b p.positive
signed_pin p b = go p.positive b
  where
    even : is_negated (2 * p.variable + 0) ≡ false
    even = let e : (2 * p.variable + 0) % 2 ≡ 0 = omega arith in ap (λ (r : ℕ). r == 1) e

    odd : is_negated (2 * p.variable + 1) ≡ true
    odd = let e : (2 * p.variable + 1) % 2 ≡ 1 = omega arith in ap (λ (r : ℕ). r == 1) e

    go : (s c : Bool) → signed_bit (2 * p.variable + cond s 0 1) c ≡ beq c s
    go true true = ap (λ (n : Bool). cond n false true) even
    go true false = ap (λ (n : Bool). cond n true false) even
    go false true = ap (λ (n : Bool). cond n false true) odd
    go false false = ap (λ (n : Bool). cond n true false) odd

pin_read : (m : List Bool) (p : Pin) → 1 ≤ p.variable → signed_bit (pin_literal p) (circuit_bit m (variable (pin_literal p))) ≡ pin_bit m p
pin_read m p some =
    ap (λ (v : ℕ). signed_bit (pin_literal p) (circuit_bit m v)) (pin_variable p)
    ∙ ap (signed_bit (pin_literal p)) (some_bit m p.variable some)
    ∙ signed_pin p (variable_bit m p.variable)

signal_read : (m : List Bool) (n : ℕ) (s : Signal) → IsSignalWithin n s → literal_bit (circuit_bit m) (signal_literal s) ≡ signal_bit m s
signal_read m n (Fixed true) within = refl
signal_read m n (Fixed false) within = refl
signal_read m n (Wire p) within = pin_read m p within.0

pub signals_read : (m : List Bool) (n : ℕ) (ss : List Signal) → AreSignalsWithin n ss → map (literal_bit (circuit_bit m)) (map signal_literal ss) ≡ word_of m ss
signals_read m n [] within = refl
signals_read m n (s ∷ ss) within = ap₂ (λ (b : Bool) (bs : List Bool). b ∷ bs) (signal_read m n s within.0) (signals_read m n ss within.1)

latches_read : (m : List Bool) (n v : ℕ) (ss : List Signal) → AreSignalsWithin n ss → map (λ (l : Latch). literal_bit (circuit_bit m) l.next) (latches_from v ss) ≡ word_of m ss
latches_read m n v [] within = refl
latches_read m n v (s ∷ ss) within = ap₂ (λ (b : Bool) (bs : List Bool). b ∷ bs) (signal_read m n s within.0) (latches_read m n (suc v) ss within.1)

-- ---- steps

module _ (outputs nexts : List Signal) (gates : List Gate) (x q : List Bool) (size : length q ≡ length nexts) (order : AreInOrder (length x + length nexts) gates) where
  abbrev tree : Aiger
  tree = circuit_tree (length x) outputs nexts gates

  abbrev computed : List Bool
  computed = evaluated (x ++ q) gates

  first_length : length (x ++ q) ≡ length x + length nexts
  first_length = length-append x q ∙ ap (λ (n : ℕ). length x + n) size

  in_order : AreInOrder (length (x ++ q)) gates
  in_order = subst (λ (n : ℕ). AreInOrder n gates) (sym first_length) order

  kept : AreKept computed (length x + length nexts) gates
  kept = subst (λ (n : ℕ). AreKept computed n gates) first_length (evaluated_keeps (x ++ q) gates in_order)

  -- the bits of inputs and of latches are those that are given
  early_bit : (v : ℕ) → 1 ≤ v → v ≤ length x + length nexts → variable_bit computed v ≡ variable_bit (x ++ q) v
  early_bit v some within =
      let more = evaluated_from (x ++ q) gates in
      ap (λ (m : List Bool). variable_bit m v) more.1 ∙ variable_before (x ++ q) more.0 v some (omega (arith, within, first_length))

  input_read : (k : ℕ) → k < length x → variable_bit computed (suc k) ≡ slice_index_or x k false
  input_read k within =
      early_bit (suc k) (omega arith) (omega (arith, within)) ∙ variable_before x q (suc k) (omega arith) (omega (arith, within)) ∙ bit_of_next x k

  latch_read : (k : ℕ) → k < length nexts → variable_bit computed (suc (length x + k)) ≡ slice_index_or q k false
  latch_read k within = early_bit (suc (length x + k)) (omega arith) (omega (arith, within)) ∙ bit_of_next (x ++ q) (length x + k) ∙ index_behind x q k

  settled : IsSettled tree x q (circuit_bit computed)
  settled v = go v (standing (length x) (length nexts) (length gates) v)
    where
      by_driver : (u : ℕ) (d : Driver) → driver tree u ≡ d → bit_of tree x q u (map (circuit_bit computed) (needs tree u)) ≡ driven tree x q (map (circuit_bit computed) (map variable (joined tree.gates d))) d
      by_driver u d is = ap (λ (e : Driver). driven tree x q (map (circuit_bit computed) (map variable (joined tree.gates e))) e) is

      out_bit : (u : ℕ) → (u ≡ 0) ⊎ (length x + length nexts + length gates < u) → circuit_bit computed u ≡ false
      out_bit zero out = refl
      out_bit (suc u) (inl same) = absurd (let no : ⊥ = cc in no)
      out_bit (suc u) (inr past) = bit_of_next computed u ∙ index_past computed u (omega (arith, past, length-evaluated (x ++ q) gates, first_length))

      joined_bits : (k : ℕ) (g : Gate) → slice_get gates k ≡ Some g → IsGateWithin (length x + length nexts + k) g
          → driven tree x q (map (circuit_bit computed) (map variable (joined tree.gates (gate_bit k)))) (gate_bit k) ≡ gate_value computed g
      joined_bits k g at within =
          ap (λ (ls : List ℕ). all_ones ls (map (circuit_bit computed) (map variable ls))) (gate_joins (length x) outputs nexts gates k g at)
          ∙ ap₂ (λ (a b : Bool). a && (b && true)) (pin_read computed g.second within.second.0) (pin_read computed g.first within.first.0)
          ∙ turned (pin_bit computed g.second) (pin_bit computed g.first)
        where
          turned : (a b : Bool) → (a && (b && true)) ≡ (b && a)
          turned true true = refl
          turned true false = refl
          turned false true = refl
          turned false false = refl

      go : (u : ℕ) → Standing (length x) (length nexts) (length gates) u → circuit_bit computed u ≡ bit_of tree x q u (map (circuit_bit computed) (needs tree u))
      go u (nowhere out) = out_bit u out ∙ sym (by_driver u nothing (drives_nothing (length x) outputs nexts gates u out))
      go u (among_inputs k within is) =
          ap (circuit_bit computed) is ∙ input_read k within ∙ sym (by_driver (suc k) (input_bit k) (drives_input (length x) outputs nexts gates k within))
          ∙ ap (λ (w : ℕ). bit_of tree x q w (map (circuit_bit computed) (needs tree w))) (sym is)
      go u (among_latches k within is) =
          ap (circuit_bit computed) is ∙ latch_read k within ∙ sym (by_driver (suc (length x + k)) (held_bit k) (drives_latch (length x) outputs nexts gates k within))
          ∙ ap (λ (w : ℕ). bit_of tree x q w (map (circuit_bit computed) (needs tree w))) (sym is)
      go u (among_gates k within is) =
          let found = slice_get_some gates k within in
          ap (circuit_bit computed) is ∙ kept_at computed (length x + length nexts) gates k found.0 kept found.1
          ∙ sym (joined_bits k found.0 found.1 (gate_within (length x + length nexts) gates k found.0 order found.1))
          ∙ sym (by_driver (suc (length x + length nexts + k)) (gate_bit k) (drives_gate (length x) outputs nexts gates k within))
          ∙ ap (λ (w : ℕ). bit_of tree x q w (map (circuit_bit computed) (needs tree w))) (sym is)

  module _ (outputs_within : AreSignalsWithin (length x + length nexts + length gates) outputs) (nexts_within : AreSignalsWithin (length x + length nexts + length gates) nexts) where
    given_read : given_bits tree (circuit_bit computed) ≡ word_of computed outputs
    unfolding circuit_tree
    given_read = signals_read computed (length x + length nexts + length gates) outputs outputs_within

    next_read : next_bits tree (circuit_bit computed) ≡ word_of computed nexts
    unfolding circuit_tree
    next_read = latches_read computed (length x + length nexts + length gates) (suc (length x)) nexts nexts_within

    own_step : Step tree x q (word_of computed outputs) (word_of computed nexts)
    own_step = record { bits = circuit_bit computed; settled = settled; read = sym given_read; taken = sym next_read }

    pub circuit_steps : (given after : List Bool) → Step tree x q given after ↔ ((given ≡ word_of computed outputs) × (after ≡ word_of computed nexts))
    circuit_steps given after = (there, back)
      where
        once : HasOneStep tree x q
        once = steps_once tree x q (circuit_acyclic (length x) outputs nexts gates order)

        there : Step tree x q given after → (given ≡ word_of computed outputs) × (after ≡ word_of computed nexts)
        there step =
            let own = once.only (word_of computed outputs) (word_of computed nexts) own_step in
            let other = once.only given after step in
            (other.0 ∙ sym own.0, other.1 ∙ sym own.1)

        back : (given ≡ word_of computed outputs) × (after ≡ word_of computed nexts) → Step tree x q given after
        back is = subst (λ (y : List Bool). Step tree x q y after) (sym is.0) (subst (Step tree x q (word_of computed outputs)) (sym is.1) own_step)
