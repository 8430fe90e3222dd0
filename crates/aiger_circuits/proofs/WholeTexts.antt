-- The written text of a circuit's tree says the tree, and is one without a fault.
use Rattle.std.proofs.Common.{◌≡◌, ℕ, zero, suc, ◌+◌, ◌*◌, ◌/◌, ◌^◌, ◌<◌, ◌≤◌, ◌==◌, ◌&&◌, ◌||◌, ◌⊎◌, Bool, true, false, not, cond, List, [], ◌∷◌, ◌++◌, map, length, slice_get, Option, Some, None, refl, sym, ap, ap₂, subst, ◌∙◌, inl}
use Rattle.std.proofs.Common.{inr, arith}
use Rattle.std.specs.Prelude.{codes, Result, Ok, Err}
use Rattle.wiring.specs.Wiring.{In}
use Rattle.text_lines.specs.Lines.{lines}
use Rattle.gates.specs.declared.signal.Pin.{Pin}
use Rattle.gates.specs.declared.signal.Gate.{Gate}
use Rattle.gates.specs.declared.signal.Signal.{Signal}
use Rattle.gates.specs.declared.signal.Signal.TheVariants.{Fixed, Wire}
use Rattle.gates.specs.Order.{IsPinWithin, IsSignalWithin, IsGateWithin, AreInOrder}
use Rattle.operation_gates.specs.WordOrder.{AreSignalsWithin}
use Rattle.aiger_laws.specs.declared.fault.Fault.{Fault}
use Rattle.aiger_laws.specs.declared.fault.Fault.TheVariants.{BadLine}
use Rattle.aiger_laws.specs.declared.tree.Latch.{Latch}
use Rattle.aiger_laws.specs.declared.tree.AndGate.{AndGate}
use Rattle.aiger_laws.specs.Trees.{Aiger, empty_tree, variable}
use Rattle.aiger_laws.specs.Drivers.{Driver, nothing, input_bit, held_bit, gate_bit, driver}
use Rattle.aiger_laws.specs.Fields.{fields}
use Rattle.aiger_laws.specs.Rows.{Header, header_of, is_driven, is_defined, row_added, has_more}
use Rattle.aiger_laws.specs.Grammar.{no_symbol, when_ended, goes_on, tree_from, tree_behind, tree_of_lines, tree_of_text, is_undefined, first_from, or_later, latch_line as latch_start, output_line as output_start}
use Rattle.aiger_laws.specs.Grammar.{gate_line as gate_start, undefined_line, IsAiger}
use Rattle.aiger_circuits.specs.CircuitTrees.{pin_literal, signal_literal, literals_from, latches_from, gates_from, and_gate, circuit_tree}
use Rattle.aiger_circuits.specs.CircuitTexts.{Symbols, more_numbers, variable_count, header_line, literal_line, latch_line, gate_line, all_symbols, tree_lines, ended_lines, tree_text, AreInLines, AreFew}
use Rattle.aiger_circuits.proofs.NumberedPlaces.{Standing, standing}
use Rattle.aiger_circuits.proofs.NumberedPlaces.Standing.{nowhere, among_inputs, among_latches, among_gates}
use Rattle.aiger_circuits.proofs.CircuitDrivers.{pin_variable, drives_input, drives_latch, drives_gate, circuit_acyclic}
use Rattle.aiger_circuits.proofs.WrittenLines.{lines_written, numbers_in_line}
use Rattle.aiger_circuits.proofs.GrowingTrees.{pin_fits, signal_fits}
use Rattle.aiger_circuits.proofs.ReadCircuits.{inputs_count, latches_count, outputs_count, gates_count, has_all, inputs_rows, latches_rows, outputs_rows, gates_rows, names_there, header_read, all_in_lines, AreShort, tree_in_lines}

-- ---- members

even_member : (s n l : ℕ) → In l (literals_from s n) → (k : ℕ) × (k < n) × (l ≡ 2 * (s + k))
even_member s zero l never = absurd never
even_member s (suc n) l (inl same) = (0, omega arith, omega (arith, same))
even_member s (suc n) l (inr more) = let rest = even_member (suc s) n l more in (suc rest.0, omega (arith, rest.1), omega (arith, rest.2))

latch_member : (s : ℕ) (ss : List Signal) (l : Latch) → In l (latches_from s ss) → (k : ℕ) × (x : Signal) × (k < length ss) × In x ss × (l ≡ record { literal = 2 * (s + k); next = signal_literal x })
latch_member s [] l never = absurd never
latch_member s (x ∷ xs) l (inl same) =
    let e : s ≡ s + 0 = omega arith in
    (0, x, omega arith, inl refl, same ∙ ap (λ (v : ℕ). record { literal = 2 * v; next = signal_literal x }) e)
latch_member s (x ∷ xs) l (inr more) =
    let rest = latch_member (suc s) xs l more in
    let e : suc s + rest.0 ≡ s + suc rest.0 = omega arith in
    (suc rest.0, rest.1, omega (arith, rest.2), inr rest.3, rest.4 ∙ ap (λ (v : ℕ). record { literal = 2 * v; next = signal_literal rest.1 }) e)

gate_member : (s n : ℕ) (gs : List Gate) (a : AndGate) → AreInOrder n gs → In a (gates_from s gs) → (k : ℕ) × (g : Gate) × (k < length gs) × IsGateWithin (n + k) g × (a ≡ and_gate (s + k) g)
gate_member s n [] a order never = absurd never
gate_member s n (g ∷ gs) a order (inl same) =
    let e : s ≡ s + 0 = omega arith in
    let f : n ≡ n + 0 = omega arith in
    (0, g, omega arith, subst (λ (m : ℕ). IsGateWithin m g) f order.0, same ∙ ap (λ (v : ℕ). and_gate v g) e)
gate_member s n (g ∷ gs) a order (inr more) =
    let rest = gate_member (suc s) (suc n) gs a order.1 more in
    let e : suc s + rest.0 ≡ s + suc rest.0 = omega arith in
    let f : suc n + rest.0 ≡ n + suc rest.0 = omega arith in
    (suc rest.0, rest.1, omega (arith, rest.2), subst (λ (m : ℕ). IsGateWithin m rest.1) f rest.3, rest.4 ∙ ap (λ (v : ℕ). and_gate v rest.1) e)

signal_member : (n : ℕ) (ss : List Signal) (x : Signal) → AreSignalsWithin n ss → In x ss → IsSignalWithin n x
signal_member n [] x within never = absurd never
signal_member n (s ∷ ss) x within (inl same) = subst (IsSignalWithin n) (sym same) within.0
signal_member n (s ∷ ss) x within (inr more) = signal_member n ss x within.1 more

literal_member : (ss : List Signal) (l : ℕ) → In l (map signal_literal ss) → (x : Signal) × In x ss × (l ≡ signal_literal x)
literal_member [] l never = absurd never
literal_member (s ∷ ss) l (inl same) = (s, inl refl, same)
literal_member (s ∷ ss) l (inr more) = let rest = literal_member ss l more in (rest.0, inr rest.1, rest.2)

-- where no line is missing, names may follow
ended_by : (h : Header) (t : Aiger) (m : ℕ) (ls : List (List ℕ)) → has_more h t ≡ false → no_symbol m ls ≡ None → tree_from h m t ls ≡ Ok t
unfolding tree_from
ended_by h t m [] full none = ap (λ (b : Bool). cond b (Err (m, BadLine)) (Ok t)) full
ended_by h t m (l ∷ ls) full none =
    ap (λ (b : Bool). cond b (goes_on m (row_added h t (fields l)) (λ u. tree_from h (m + 1) u ls)) (when_ended t (no_symbol m (l ∷ ls)))) full ∙ ap (when_ended t) none

-- ---- a circuit with few variables

module _ (inputs : ℕ) (outputs nexts : List Signal) (gates : List Gate) where
  abbrev most : ℕ
  most = inputs + length nexts + length gates

  abbrev tree : Aiger
  tree = circuit_tree inputs outputs nexts gates

  abbrev header : Header
  header = record { most = most; inputs = inputs; latches = length nexts; outputs = length outputs; gates = length gates }

  count_is : variable_count tree ≡ most
  count_is =
      ap₂ (λ (a b : ℕ). a + b + length tree.gates) (inputs_count inputs outputs nexts gates) (latches_count inputs outputs nexts gates)
      ∙ ap (λ (a : ℕ). inputs + length nexts + a) (gates_count inputs outputs nexts gates)

  module _ (few : most < 2 ^ 31) (outputs_within : AreSignalsWithin most outputs) (nexts_within : AreSignalsWithin most nexts) (order : AreInOrder (inputs + length nexts) gates) where
    short : AreShort tree
    unfolding circuit_tree
    short = record {
      inputs = λ l here. let at = even_member 1 inputs l here in omega (arith, few, at.1, at.2);
      latches = λ l here. latch_short l (latch_member (suc inputs) nexts l here);
      outputs = λ l here. output_short l (literal_member outputs l here);
      gates = λ g here. gate_short g (gate_member (suc (inputs + length nexts)) (inputs + length nexts) gates g order here);
    }
      where
        latch_short : (l : Latch) → (k : ℕ) × (x : Signal) × (k < length nexts) × In x nexts × (l ≡ record { literal = 2 * (suc inputs + k); next = signal_literal x }) → (l.literal < 2 ^ 64) × (l.next < 2 ^ 64)
        latch_short l (k, x, less, here, is) =
            let a : l.literal ≡ 2 * (suc inputs + k) = ap (λ (z : Latch). z.literal) is in
            let b : l.next ≡ signal_literal x = ap (λ (z : Latch). z.next) is in
            (omega (arith, few, less, a), omega (arith, few, b, signal_fits most x (signal_member most nexts x nexts_within here)))

        output_short : (l : ℕ) → (x : Signal) × In x outputs × (l ≡ signal_literal x) → l < 2 ^ 64
        output_short l (x, here, is) = omega (arith, few, is, signal_fits most x (signal_member most outputs x outputs_within here))

        gate_short : (a : AndGate) → (k : ℕ) × (g : Gate) × (k < length gates) × IsGateWithin (inputs + length nexts + k) g × (a ≡ and_gate (suc (inputs + length nexts) + k) g)
            → (a.literal < 2 ^ 64) × (a.left < 2 ^ 64) × (a.right < 2 ^ 64)
        gate_short a (k, g, less, within, is) =
            let one : a.literal ≡ 2 * (suc (inputs + length nexts) + k) = ap (λ (z : AndGate). z.literal) is in
            let two : a.left ≡ pin_literal g.second = ap (λ (z : AndGate). z.left) is in
            let three : a.right ≡ pin_literal g.first = ap (λ (z : AndGate). z.right) is in
            (omega (arith, few, less, one), omega (arith, few, two, pin_fits most g.second (omega (arith, within.second.1, less))), omega (arith, few, three, pin_fits most g.first (omega (arith, within.first.1, less))))

    -- ---- what is used is defined

    defined : (v : ℕ) → 1 ≤ v → v ≤ most → is_defined tree v ≡ true
    defined v some within = go (standing inputs (length nexts) (length gates) v)
      where
        go : Standing inputs (length nexts) (length gates) v → is_driven (driver tree v) ≡ true
        go (nowhere (inl none)) = absurd (omega (arith, some, none))
        go (nowhere (inr past)) = absurd (omega (arith, within, past))
        go (among_inputs k less is) = ap (λ (u : ℕ). is_driven (driver tree u)) is ∙ ap is_driven (drives_input inputs outputs nexts gates k less)
        go (among_latches k less is) = ap (λ (u : ℕ). is_driven (driver tree u)) is ∙ ap is_driven (drives_latch inputs outputs nexts gates k less)
        go (among_gates k less is) = ap (λ (u : ℕ). is_driven (driver tree u)) is ∙ ap is_driven (drives_gate inputs outputs nexts gates k less)

    none_false : (a : Bool) → (a && not true) ≡ false
    none_false true = refl
    none_false false = refl

    pin_defined : (p : Pin) → 1 ≤ p.variable → p.variable ≤ most → is_undefined tree (pin_literal p) ≡ false
    pin_defined p some within =
        ap (λ (b : Bool). not (variable (pin_literal p) == 0) && not b) (ap (is_defined tree) (pin_variable p) ∙ defined p.variable some within) ∙ none_false (not (variable (pin_literal p) == 0))

    signal_defined : (s : Signal) → IsSignalWithin most s → is_undefined tree (signal_literal s) ≡ false
    signal_defined (Fixed true) within = refl
    signal_defined (Fixed false) within = refl
    signal_defined (Wire p) within = pin_defined p within.0 within.1

    none_fails : {A : Type 0} → (test : A → Bool) (n : ℕ) (xs : List A) → ((x : A) → In x xs → test x ≡ false) → first_from test n xs ≡ None
    none_fails test n [] each = refl
    none_fails test n (x ∷ xs) each = ap (λ (b : Bool). cond b (Some n) (first_from test (n + 1) xs)) (each x (inl refl)) ∙ none_fails test (n + 1) xs (λ y here. each y (inr here))

    latches_defined : (l : Latch) → In l tree.latches → is_undefined tree l.next ≡ false
    unfolding circuit_tree
    latches_defined l here = go (latch_member (suc inputs) nexts l here)
      where
        go : (k : ℕ) × (x : Signal) × (k < length nexts) × In x nexts × (l ≡ record { literal = 2 * (suc inputs + k); next = signal_literal x }) → is_undefined tree l.next ≡ false
        go (k, x, less, there, is) = ap (λ (z : Latch). is_undefined tree z.next) is ∙ signal_defined x (signal_member most nexts x nexts_within there)

    outputs_defined : (l : ℕ) → In l tree.outputs → is_undefined tree l ≡ false
    unfolding circuit_tree
    outputs_defined l here = go (literal_member outputs l here)
      where
        go : (x : Signal) × In x outputs × (l ≡ signal_literal x) → is_undefined tree l ≡ false
        go (x, there, is) = ap (is_undefined tree) is ∙ signal_defined x (signal_member most outputs x outputs_within there)

    gates_defined : (a : AndGate) → In a tree.gates → (is_undefined tree a.left || is_undefined tree a.right) ≡ false
    unfolding circuit_tree
    gates_defined a here = go (gate_member (suc (inputs + length nexts)) (inputs + length nexts) gates a order here)
      where
        go : (k : ℕ) × (g : Gate) × (k < length gates) × IsGateWithin (inputs + length nexts + k) g × (a ≡ and_gate (suc (inputs + length nexts) + k) g) → (is_undefined tree a.left || is_undefined tree a.right) ≡ false
        go (k, g, less, within, is) =
            ap (λ (z : AndGate). is_undefined tree z.left || is_undefined tree z.right) is
            ∙ ap₂ (λ (p q : Bool). p || q) (pin_defined g.second within.second.0 (omega (arith, within.second.1, less))) (pin_defined g.first within.first.0 (omega (arith, within.first.1, less)))

    nothing_undefined : undefined_line tree ≡ None
    unfolding undefined_line
    nothing_undefined =
        ap₂ (λ (a b : Option ℕ). or_later a (or_later b (first_from (λ (g : AndGate). is_undefined tree g.left || is_undefined tree g.right) (gate_start tree) tree.gates)))
        (none_fails (λ (l : Latch). is_undefined tree l.next) (latch_start tree) tree.latches latches_defined)
        (none_fails (is_undefined tree) (output_start tree) tree.outputs outputs_defined)
        ∙ none_fails (λ (g : AndGate). is_undefined tree g.left || is_undefined tree g.right) (gate_start tree) tree.gates gates_defined

    -- ---- the text

    module _ (s : Symbols) (some : length outputs < 2 ^ 64) (few_names : AreFew s) (in_lines : AreInLines (all_symbols s)) where
      lines_are : lines (tree_text tree s) ≡ header_line tree ∷ tree_lines tree s
      unfolding tree_text
      lines_are =
          lines_written (header_line tree ∷ tree_lines tree s) (
            numbers_in_line (variable_count tree ∷ length tree.inputs ∷ length tree.latches ∷ length tree.outputs ∷ length tree.gates ∷ []) (
              omega (arith, count_is, few),
              (
                omega (arith, inputs_count inputs outputs nexts gates, few),
                (
                  omega (arith, latches_count inputs outputs nexts gates, few),
                  (omega (arith, outputs_count inputs outputs nexts gates, some), (omega (arith, gates_count inputs outputs nexts gates, few), tt)),
                ),
              ),
            ),
            tree_in_lines tree s short in_lines,
          )

      header_is : header_of (fields (header_line tree)) ≡ Some header
      header_is =
          header_read (variable_count tree) (length tree.inputs) (length tree.latches) (length tree.outputs) (length tree.gates) (omega (arith, count_is, few)) (omega arith)
          (omega (arith, outputs_count inputs outputs nexts gates, some))
          ∙ ap₂ (λ (a b : ℕ). Some (record { most = a; inputs = b; latches = length tree.latches; outputs = length tree.outputs; gates = length tree.gates })) count_is (inputs_count inputs outputs nexts gates)
          ∙ ap₂ (λ (a b : ℕ). Some (record { most = most; inputs = inputs; latches = a; outputs = b; gates = length tree.gates })) (latches_count inputs outputs nexts gates) (outputs_count inputs outputs nexts gates)
          ∙ ap (λ (a : ℕ). Some (record { most = most; inputs = inputs; latches = length nexts; outputs = length outputs; gates = a })) (gates_count inputs outputs nexts gates)

      ended : (m : ℕ) → tree_from header m tree (all_symbols s) ≡ Ok tree
      ended m =
          ended_by header tree m (all_symbols s)
          (has_all header tree (inputs_count inputs outputs nexts gates) (latches_count inputs outputs nexts gates) (outputs_count inputs outputs nexts gates) (gates_count inputs outputs nexts gates))
          (names_there s few_names m)

      gate_rows_read : (m : ℕ) → tree_from header m (circuit_tree inputs outputs nexts []) (map gate_line (gates_from (suc (inputs + length nexts)) gates) ++ all_symbols s) ≡ Ok tree
      gate_rows_read m =
          let e : inputs + length nexts + 0 ≡ inputs + length nexts = omega arith in
          subst (λ (v : ℕ). tree_from header m (circuit_tree inputs outputs nexts []) (map gate_line (gates_from (suc v) gates) ++ all_symbols s) ≡ Ok tree) e
          (gates_rows inputs outputs nexts gates few outputs_within nexts_within order gates [] (all_symbols s) refl (subst (λ (v : ℕ). AreInOrder v gates) (sym e) order) ended m)

      latch_rows_read : (rest : List (List ℕ)) → ((k : ℕ) → tree_from header k (circuit_tree inputs [] nexts []) rest ≡ Ok tree)
          → (m : ℕ) → tree_from header m (circuit_tree inputs [] [] []) (map latch_line (latches_from (suc inputs) nexts) ++ rest) ≡ Ok tree
      latch_rows_read rest done m =
          let e : inputs + 0 ≡ inputs = omega arith in
          subst (λ (v : ℕ). tree_from header m (circuit_tree inputs [] [] []) (map latch_line (latches_from (suc v) nexts) ++ rest) ≡ Ok tree) e
          (latches_rows inputs outputs nexts gates few outputs_within nexts_within order nexts [] rest refl nexts_within done m)

      rows_read : (m : ℕ) → tree_from header m empty_tree (tree_lines tree s) ≡ Ok tree
      unfolding circuit_tree
      rows_read =
          inputs_rows inputs outputs nexts gates few outputs_within nexts_within order inputs 0 _ (omega arith)
          (latch_rows_read _ (outputs_rows inputs outputs nexts gates few outputs_within nexts_within order outputs [] _ refl outputs_within gate_rows_read))

      text_read : tree_of_text (tree_text tree s) ≡ Ok tree
      unfolding tree_of_text
      text_read =
          ap tree_of_lines lines_are ∙ ap (λ (h : Option Header). tree_behind h (tree_lines tree s)) header_is ∙ rows_read 2

      pub circuit_text_is_aiger : IsAiger (tree_text tree s) tree
      circuit_text_is_aiger = record { reads = text_read; defined = nothing_undefined; acyclic = circuit_acyclic inputs outputs nexts gates order }
