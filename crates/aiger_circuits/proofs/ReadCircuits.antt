-- The text of a circuit's tree says that tree.
use Rattle.std.proofs.Common.{◌≡◌, ℕ, zero, suc, ◌+◌, ◌*◌, ◌/◌, ◌^◌, ◌<◌, ◌≤◌, ◌==◌, ◌&&◌, ◌||◌, ◌⊎◌, Bool, true, false, not, cond, List, [], ◌∷◌, ◌++◌, map, length, Option, Some, None, refl, sym, ap, ap₂, subst, ◌∙◌, inl, inr, arith}
use Rattle.std.proofs.Common.{append_assoc, append-nil, length-append}
use Rattle.std.specs.Prelude.{nat_lt, nat_le, nat_eq, is_some, codes, decimal, Result, Ok, Err}
use Rattle.std.specs.List.{list_all}
use Rattle.std.specs.Cmp.Lexicographic.{pointwise}
use Rattle.std.proofs.lemmas.Bool.{and_from, eq-eqb, lt-ltb, le-leb, ltb-true}
use Rattle.std.proofs.lemmas.List.{length-map}
use Rattle.wiring.specs.Wiring.{In}
use Rattle.text_lines.specs.Lines.{lines}
use Rattle.gates.specs.declared.signal.Pin.{Pin}
use Rattle.gates.specs.declared.signal.Gate.{Gate}
use Rattle.gates.specs.declared.signal.Signal.{Signal}
use Rattle.gates.specs.declared.signal.Signal.TheVariants.{Fixed, Wire}
use Rattle.gates.specs.Order.{IsSignalWithin, IsGateWithin, AreInOrder}
use Rattle.operation_gates.specs.WordOrder.{AreSignalsWithin}
use Rattle.aiger_laws.specs.declared.fault.Fault.{Fault}
use Rattle.aiger_laws.specs.declared.fault.Fault.TheVariants.{BadLine}
use Rattle.aiger_laws.specs.declared.tree.Latch.{Latch}
use Rattle.aiger_laws.specs.declared.tree.AndGate.{AndGate}
use Rattle.aiger_laws.specs.Trees.{Aiger, empty_tree, variable}
use Rattle.aiger_laws.specs.Fields.{fields, numeral}
use Rattle.aiger_laws.specs.Rows.{Header, header_of, both, counts, is_ample, if_ample, are_zeros, same_bytes, one_number, is_reset, latch_by, latch_of, gate_by, gate_of, row_added, has_more, input_added, latch_added, output_added}
use Rattle.aiger_laws.specs.Rows.{gate_added, is_symbol_letter, is_named, is_symbol, begins_comments}
use Rattle.aiger_laws.specs.Grammar.{no_symbol, when_ended, goes_on, tree_from, tree_behind, tree_of_lines, tree_of_text}
use Rattle.aiger_circuits.specs.CircuitTrees.{pin_literal, signal_literal, literals_from, latches_from, gates_from, and_gate, circuit_tree}
use Rattle.aiger_circuits.specs.CircuitTexts.{Symbols, more_numbers, numbers_line, header_line, literal_line, latch_line, gate_line, symbol_line, symbol_lines, all_symbols, tree_lines, ended_lines, tree_text, IsInLine, AreInLines}
use Rattle.aiger_circuits.specs.CircuitTexts.{AreFew, variable_count}
use Rattle.aiger_circuits.proofs.WrittenLines.{lines_written, lines_joined, some_field, numeral_read, AreSmall, fields_behind, numbers_read, numbers_in_line, line_of_numbers, name_field, name_in_line}
use Rattle.aiger_circuits.proofs.GrowingTrees.{pin_fits, signal_fits, one_input, one_latch, one_output, one_gate}

-- ---- lengths

pub literals_length : (s n : ℕ) → length (literals_from s n) ≡ n
literals_length s zero = refl
literals_length s (suc n) = ap suc (literals_length (suc s) n)

pub latches_length : (s : ℕ) (ss : List Signal) → length (latches_from s ss) ≡ length ss
latches_length s [] = refl
latches_length s (x ∷ xs) = ap suc (latches_length (suc s) xs)

pub gates_length : (s : ℕ) (gs : List Gate) → length (gates_from s gs) ≡ length gs
gates_length s [] = refl
gates_length s (g ∷ gs) = ap suc (gates_length (suc s) gs)

module _ (inputs : ℕ) (outputs nexts : List Signal) (gates : List Gate) where
  pub inputs_count : length ((circuit_tree inputs outputs nexts gates).inputs) ≡ inputs
  unfolding circuit_tree
  inputs_count = literals_length 1 inputs

  pub latches_count : length ((circuit_tree inputs outputs nexts gates).latches) ≡ length nexts
  unfolding circuit_tree
  latches_count = latches_length (suc inputs) nexts

  pub outputs_count : length ((circuit_tree inputs outputs nexts gates).outputs) ≡ length outputs
  unfolding circuit_tree
  outputs_count = length-map outputs signal_literal

  pub gates_count : length ((circuit_tree inputs outputs nexts gates).gates) ≡ length gates
  unfolding circuit_tree
  gates_count = gates_length (suc (inputs + length nexts)) gates

-- ---- one row

-- a row that is added stands before the others
row_read : (h : Header) (t s : Aiger) (l : List ℕ) (ls : List (List ℕ)) (whole : Aiger) → has_more h t ≡ true → row_added h t (fields l) ≡ Ok s
    → ((n : ℕ) → tree_from h n s ls ≡ Ok whole) → (n : ℕ) → tree_from h n t (l ∷ ls) ≡ Ok whole
unfolding tree_from
row_read h t s l ls whole more added rest n =
    ap (λ (b : Bool). cond b (goes_on n (row_added h t (fields l)) (λ u. tree_from h (n + 1) u ls)) (when_ended t (no_symbol n (l ∷ ls)))) more
    ∙ ap (λ (r : Result Aiger Fault). goes_on n r (λ u. tree_from h (n + 1) u ls)) added
    ∙ rest (n + 1)

number_alone : (l : ℕ) → l < 2 ^ 64 → one_number (fields (literal_line l)) ≡ Some l
number_alone l small = ap one_number (numbers_read l [] (small, tt)) ∙ numeral_read l small

bytes_same : (w : List ℕ) → same_bytes w w ≡ true
bytes_same [] = refl
bytes_same (b ∷ bs) = and_from (nat_eq b b) (pointwise nat_eq bs bs) (eq-eqb b b refl) (bytes_same bs)

own_reset : (w : List ℕ) → is_reset w w ≡ true
own_reset w = go (same_bytes w (codes "0")) (same_bytes w (codes "1")) (same_bytes w w) (bytes_same w)
  where
    go : (a b c : Bool) → c ≡ true → (a || (b || c)) ≡ true
    go true b c is = refl
    go false true c is = refl
    go false false c is = is

latch_numbers : (l : Latch) → l.literal < 2 ^ 64 → l.next < 2 ^ 64 → latch_of (fields (latch_line l)) ≡ Some l
latch_numbers l first second =
    ap latch_of (numbers_read l.literal (l.next ∷ l.literal ∷ []) (first, (second, (first, tt))))
    ∙ ap (λ (b : Bool). cond b (latch_by (both (numeral (decimal l.literal)) (numeral (decimal l.next)))) None) (own_reset (decimal l.literal))
    ∙ ap₂ (λ (a b : Option ℕ). latch_by (both a b)) (numeral_read l.literal first) (numeral_read l.next second)

three_numbers : (g : AndGate) → g.literal < 2 ^ 64 → g.left < 2 ^ 64 → g.right < 2 ^ 64 → gate_of (fields (gate_line g)) ≡ Some g
three_numbers g first second third =
    ap gate_of (numbers_read g.literal (g.left ∷ g.right ∷ []) (first, (second, (third, tt))))
    ∙ ap₂ (λ (a b : Option ℕ). gate_by (both a b) (numeral (decimal g.right))) (numeral_read g.literal first) (numeral_read g.left second)
    ∙ ap (gate_by (Some (g.literal, g.left))) (numeral_read g.right third)

-- ---- rows, by what the header says

module _ (h : Header) where
  adds_input : (t : Aiger) (ws : List (List ℕ)) → length t.inputs < h.inputs → (has_more h t ≡ true) × (row_added h t ws ≡ input_added h.most t (one_number ws))
  unfolding has_more row_added
  adds_input t ws less = (
    ap (λ (b : Bool). b || (nat_lt (length t.latches) h.latches || (nat_lt (length t.outputs) h.outputs || nat_lt (length t.gates) h.gates))) (lt-ltb (length t.inputs) h.inputs less),
    ap (λ (b : Bool). cond b (input_added h.most t (one_number ws)) (cond (nat_lt (length t.latches) h.latches) (latch_added h.most t (latch_of ws))
        (cond (nat_lt (length t.outputs) h.outputs) (output_added h.most t (one_number ws)) (gate_added h.most t (gate_of ws))))) (lt-ltb (length t.inputs) h.inputs less),
  )

  all_there : (a b : ℕ) → a ≡ b → nat_lt a b ≡ false
  all_there a b same = go (nat_lt a b) refl
    where
      go : (t : Bool) → nat_lt a b ≡ t → t ≡ false
      go true is = absurd (let less : a < b = ltb-true a b is in omega (arith, less, same))
      go false is = refl

  adds_latch : (t : Aiger) (ws : List (List ℕ)) → length t.inputs ≡ h.inputs → length t.latches < h.latches → (has_more h t ≡ true) × (row_added h t ws ≡ latch_added h.most t (latch_of ws))
  unfolding has_more row_added
  adds_latch t ws inputs less = (
    ap₂ (λ (a b : Bool). a || (b || (nat_lt (length t.outputs) h.outputs || nat_lt (length t.gates) h.gates))) (all_there (length t.inputs) h.inputs inputs) (lt-ltb (length t.latches) h.latches less),
    ap₂ (λ (a b : Bool). cond a (input_added h.most t (one_number ws)) (cond b (latch_added h.most t (latch_of ws))
        (cond (nat_lt (length t.outputs) h.outputs) (output_added h.most t (one_number ws)) (gate_added h.most t (gate_of ws))))) (all_there (length t.inputs) h.inputs inputs) (lt-ltb (length t.latches) h.latches less),
  )

  adds_output : (t : Aiger) (ws : List (List ℕ)) → length t.inputs ≡ h.inputs → length t.latches ≡ h.latches → length t.outputs < h.outputs
      → (has_more h t ≡ true) × (row_added h t ws ≡ output_added h.most t (one_number ws))
  unfolding has_more row_added
  adds_output t ws inputs latches less = (
    ap₂ (λ (a b : Bool). a || (b || (nat_lt (length t.outputs) h.outputs || nat_lt (length t.gates) h.gates))) (all_there (length t.inputs) h.inputs inputs) (all_there (length t.latches) h.latches latches)
        ∙ ap (λ (c : Bool). c || nat_lt (length t.gates) h.gates) (lt-ltb (length t.outputs) h.outputs less),
    ap₂ (λ (a b : Bool). cond a (input_added h.most t (one_number ws)) (cond b (latch_added h.most t (latch_of ws))
        (cond (nat_lt (length t.outputs) h.outputs) (output_added h.most t (one_number ws)) (gate_added h.most t (gate_of ws))))) (all_there (length t.inputs) h.inputs inputs) (all_there (length t.latches) h.latches latches)
        ∙ ap (λ (c : Bool). cond c (output_added h.most t (one_number ws)) (gate_added h.most t (gate_of ws))) (lt-ltb (length t.outputs) h.outputs less),
  )

  adds_gate : (t : Aiger) (ws : List (List ℕ)) → length t.inputs ≡ h.inputs → length t.latches ≡ h.latches → length t.outputs ≡ h.outputs → length t.gates < h.gates
      → (has_more h t ≡ true) × (row_added h t ws ≡ gate_added h.most t (gate_of ws))
  unfolding has_more row_added
  adds_gate t ws inputs latches outputs less = (
    ap₂ (λ (a b : Bool). a || (b || (nat_lt (length t.outputs) h.outputs || nat_lt (length t.gates) h.gates))) (all_there (length t.inputs) h.inputs inputs) (all_there (length t.latches) h.latches latches)
        ∙ ap₂ (λ (c e : Bool). c || e) (all_there (length t.outputs) h.outputs outputs) (lt-ltb (length t.gates) h.gates less),
    ap₂ (λ (a b : Bool). cond a (input_added h.most t (one_number ws)) (cond b (latch_added h.most t (latch_of ws))
        (cond (nat_lt (length t.outputs) h.outputs) (output_added h.most t (one_number ws)) (gate_added h.most t (gate_of ws))))) (all_there (length t.inputs) h.inputs inputs) (all_there (length t.latches) h.latches latches)
        ∙ ap (λ (c : Bool). cond c (output_added h.most t (one_number ws)) (gate_added h.most t (gate_of ws))) (all_there (length t.outputs) h.outputs outputs),
  )

  pub has_all : (t : Aiger) → length t.inputs ≡ h.inputs → length t.latches ≡ h.latches → length t.outputs ≡ h.outputs → length t.gates ≡ h.gates → has_more h t ≡ false
  unfolding has_more
  has_all t inputs latches outputs gates =
      ap₂ (λ (a b : Bool). a || (b || (nat_lt (length t.outputs) h.outputs || nat_lt (length t.gates) h.gates))) (all_there (length t.inputs) h.inputs inputs) (all_there (length t.latches) h.latches latches)
      ∙ ap₂ (λ (c e : Bool). c || e) (all_there (length t.outputs) h.outputs outputs) (all_there (length t.gates) h.gates gates)

-- ---- a circuit's rows

module _ (inputs : ℕ) (outputs nexts : List Signal) (gates : List Gate) where
  abbrev most : ℕ
  most = inputs + length nexts + length gates

  abbrev header : Header
  header = record { most = most; inputs = inputs; latches = length nexts; outputs = length outputs; gates = length gates }

  abbrev whole : Aiger
  whole = circuit_tree inputs outputs nexts gates

  module _ (few : most < 2 ^ 31) (outputs_within : AreSignalsWithin most outputs) (nexts_within : AreSignalsWithin most nexts) (order : AreInOrder (inputs + length nexts) gates) where
    pub inputs_rows : (n k : ℕ) (rest : List (List ℕ)) → k + n ≡ inputs → ((m : ℕ) → tree_from header m (circuit_tree inputs [] [] []) rest ≡ Ok whole)
        → (m : ℕ) → tree_from header m (circuit_tree k [] [] []) (map literal_line (literals_from (suc k) n) ++ rest) ≡ Ok whole
    inputs_rows zero k rest sum done m =
        let e : inputs ≡ k = omega (arith, sum) in
        subst (λ (j : ℕ). tree_from header m (circuit_tree j [] [] []) rest ≡ Ok whole) e (done m)
    inputs_rows (suc n) k rest sum done m =
        row_read header (circuit_tree k [] [] []) (circuit_tree (suc k) [] [] []) (literal_line (2 * suc k)) (map literal_line (literals_from (suc (suc k)) n) ++ rest) whole
        adds.0 (adds.1 ∙ ap (input_added most (circuit_tree k [] [] [])) (number_alone (2 * suc k) (omega (arith, few, sum))) ∙ one_input most k (omega (arith, sum)))
        (inputs_rows n (suc k) rest (omega (arith, sum)) done) m
      where
        adds : (has_more header (circuit_tree k [] [] []) ≡ true) × (row_added header (circuit_tree k [] [] []) (fields (literal_line (2 * suc k)))
            ≡ input_added most (circuit_tree k [] [] []) (one_number (fields (literal_line (2 * suc k)))))
        adds = adds_input header (circuit_tree k [] [] []) (fields (literal_line (2 * suc k))) (omega (arith, sum, (inputs_count k [] [] [])))

    pub latches_rows : (ss done_ones : List Signal) (rest : List (List ℕ)) → done_ones ++ ss ≡ nexts → AreSignalsWithin most ss
        → ((m : ℕ) → tree_from header m (circuit_tree inputs [] nexts []) rest ≡ Ok whole)
        → (m : ℕ) → tree_from header m (circuit_tree inputs [] done_ones []) (map latch_line (latches_from (suc (inputs + length done_ones)) ss) ++ rest) ≡ Ok whole
    latches_rows [] before rest joins within done m =
        let e : nexts ≡ before = sym joins ∙ append-nil before in
        subst (λ (zs : List Signal). tree_from header m (circuit_tree inputs [] zs []) rest ≡ Ok whole) e (done m)
    latches_rows (s ∷ ss) before rest joins within done m =
        row_read header (circuit_tree inputs [] before []) (circuit_tree inputs [] (before ++ s ∷ []) []) (latch_line own) (map latch_line (latches_from (suc (suc (inputs + length before))) ss) ++ rest) whole
        adds.0 (adds.1 ∙ ap (latch_added most (circuit_tree inputs [] before [])) (latch_numbers own (omega (arith, few, room)) (omega (arith, few, signal_fits most s within.0)))
        ∙ one_latch most inputs before s (omega (arith, room)) within.0)
        (λ k. subst (λ (v : ℕ). tree_from header k (circuit_tree inputs [] (before ++ s ∷ []) []) (map latch_line (latches_from v ss) ++ rest) ≡ Ok whole) next
        (latches_rows ss (before ++ s ∷ []) rest (append_assoc before (s ∷ []) ss ∙ joins) within.1 done k)) m
      where
        own : Latch
        own = record { literal = 2 * suc (inputs + length before); next = signal_literal s }

        room : suc (length before + length ss) ≡ length nexts
        room = let e : length (before ++ s ∷ ss) ≡ length before + suc (length ss) = length-append before (s ∷ ss) in omega (arith, e, ap length joins)

        next : suc (inputs + length (before ++ s ∷ [])) ≡ suc (suc (inputs + length before))
        next = let e : length (before ++ s ∷ []) ≡ length before + 1 = length-append before (s ∷ []) in omega (arith, e)

        adds : (has_more header (circuit_tree inputs [] before []) ≡ true) × (row_added header (circuit_tree inputs [] before []) (fields (latch_line own))
            ≡ latch_added most (circuit_tree inputs [] before []) (latch_of (fields (latch_line own))))
        adds = adds_latch header (circuit_tree inputs [] before []) (fields (latch_line own)) (inputs_count inputs [] before []) (omega (arith, (latches_count inputs [] before []), room))

    pub outputs_rows : (ss before : List Signal) (rest : List (List ℕ)) → before ++ ss ≡ outputs → AreSignalsWithin most ss
        → ((m : ℕ) → tree_from header m (circuit_tree inputs outputs nexts []) rest ≡ Ok whole)
        → (m : ℕ) → tree_from header m (circuit_tree inputs before nexts []) (map literal_line (map signal_literal ss) ++ rest) ≡ Ok whole
    outputs_rows [] before rest joins within done m =
        let e : outputs ≡ before = sym joins ∙ append-nil before in
        subst (λ (zs : List Signal). tree_from header m (circuit_tree inputs zs nexts []) rest ≡ Ok whole) e (done m)
    outputs_rows (s ∷ ss) before rest joins within done m =
        row_read header (circuit_tree inputs before nexts []) (circuit_tree inputs (before ++ s ∷ []) nexts []) (literal_line (signal_literal s)) (map literal_line (map signal_literal ss) ++ rest) whole
        adds.0 (adds.1 ∙ ap (output_added most (circuit_tree inputs before nexts [])) (number_alone (signal_literal s) (omega (arith, few, signal_fits most s within.0))) ∙ one_output most inputs before nexts s within.0)
        (outputs_rows ss (before ++ s ∷ []) rest (append_assoc before (s ∷ []) ss ∙ joins) within.1 done) m
      where
        room : suc (length before + length ss) ≡ length outputs
        room = let e : length (before ++ s ∷ ss) ≡ length before + suc (length ss) = length-append before (s ∷ ss) in omega (arith, e, ap length joins)

        adds : (has_more header (circuit_tree inputs before nexts []) ≡ true) × (row_added header (circuit_tree inputs before nexts []) (fields (literal_line (signal_literal s)))
            ≡ output_added most (circuit_tree inputs before nexts []) (one_number (fields (literal_line (signal_literal s)))))
        adds = adds_output header (circuit_tree inputs before nexts []) (fields (literal_line (signal_literal s))) (inputs_count inputs before nexts []) (latches_count inputs before nexts []) (omega (
          arith,
          (outputs_count inputs before nexts []),
          room,
        ))

    pub gates_rows : (gs before : List Gate) (rest : List (List ℕ)) → before ++ gs ≡ gates → AreInOrder (inputs + length nexts + length before) gs
        → ((m : ℕ) → tree_from header m whole rest ≡ Ok whole)
        → (m : ℕ) → tree_from header m (circuit_tree inputs outputs nexts before) (map gate_line (gates_from (suc (inputs + length nexts + length before)) gs) ++ rest) ≡ Ok whole
    gates_rows [] before rest joins ordered done m =
        let e : gates ≡ before = sym joins ∙ append-nil before in
        subst (λ (zs : List Gate). tree_from header m (circuit_tree inputs outputs nexts zs) rest ≡ Ok whole) e (done m)
    gates_rows (g ∷ gs) before rest joins ordered done m =
        row_read header (circuit_tree inputs outputs nexts before) (circuit_tree inputs outputs nexts (before ++ g ∷ [])) (gate_line own) (map gate_line (gates_from (suc (suc (inputs + length nexts + length before))) gs) ++ rest) whole
        adds.0 (adds.1 ∙ ap (gate_added most (circuit_tree inputs outputs nexts before)) (three_numbers own (omega (arith, few, room)) (omega (arith, few, pin_fits most g.second second)) (omega
        (arith, few, pin_fits most g.first first)))
        ∙ one_gate most inputs outputs nexts before g (omega (arith, room)) first second)
        (λ k. subst (λ (v : ℕ). tree_from header k (circuit_tree inputs outputs nexts (before ++ g ∷ [])) (map gate_line (gates_from v gs) ++ rest) ≡ Ok whole) next
        (gates_rows gs (before ++ g ∷ []) rest (append_assoc before (g ∷ []) gs ∙ joins) (subst (λ (v : ℕ). AreInOrder v gs) place ordered.1) done k)) m
      where
        own : AndGate
        own = and_gate (suc (inputs + length nexts + length before)) g

        room : suc (length before + length gs) ≡ length gates
        room = let e : length (before ++ g ∷ gs) ≡ length before + suc (length gs) = length-append before (g ∷ gs) in omega (arith, e, ap length joins)

        first : g.first.variable ≤ most
        first = omega (arith, ordered.0.first.1, room)

        second : g.second.variable ≤ most
        second = omega (arith, ordered.0.second.1, room)

        longer : length (before ++ g ∷ []) ≡ length before + 1
        longer = length-append before (g ∷ [])

        next : suc (inputs + length nexts + length (before ++ g ∷ [])) ≡ suc (suc (inputs + length nexts + length before))
        next = omega (arith, longer)

        place : suc (inputs + length nexts + length before) ≡ inputs + length nexts + length (before ++ g ∷ [])
        place = omega (arith, longer)

        adds : (has_more header (circuit_tree inputs outputs nexts before) ≡ true) × (row_added header (circuit_tree inputs outputs nexts before) (fields (gate_line own))
            ≡ gate_added most (circuit_tree inputs outputs nexts before) (gate_of (fields (gate_line own))))
        adds = adds_gate header (circuit_tree inputs outputs nexts before) (fields (gate_line own)) (inputs_count inputs outputs nexts before) (latches_count inputs outputs nexts before) (outputs_count inputs outputs nexts before)
            (omega (arith, (gates_count inputs outputs nexts before), room))

-- ---- names of bits

symbol_there : (letter k : ℕ) (name : List ℕ) → is_symbol_letter letter ≡ true → k < 2 ^ 64 → is_symbol (symbol_line letter k name) ≡ true
symbol_there letter k name is small =
    let some = some_field name in
    ap (λ (b : Bool). b && is_named (fields (decimal k ++ 32 ∷ name))) is
    ∙ ap is_named (name_field k name small ∙ ap (λ (more : List (List ℕ)). decimal k ∷ more) some.2)
    ∙ ap is_some (numeral_read k small)

no_comment : (letter k : ℕ) (name : List ℕ) → (letter == 99) ≡ false → begins_comments (symbol_line letter k name) ≡ false
no_comment letter k name other = ap (λ (b : Bool). b && pointwise nat_eq (decimal k ++ 32 ∷ name) []) other

symbols_there : (letter k n : ℕ) (names rest : List (List ℕ)) → is_symbol_letter letter ≡ true → (letter == 99) ≡ false → k + length names < 2 ^ 64
    → ((m : ℕ) → no_symbol m rest ≡ None) → no_symbol n (symbol_lines letter k names ++ rest) ≡ None
unfolding no_symbol
symbols_there letter k n [] rest is other small done = done n
symbols_there letter k n (name ∷ names) rest is other small done =
    ap₂ (λ (a b : Bool). cond a None (cond b (no_symbol (n + 1) (symbol_lines letter (suc k) names ++ rest)) (Some n))) (no_comment letter k name other) (symbol_there letter k name is (omega (arith, small)))
    ∙ symbols_there letter (suc k) (n + 1) names rest is other (omega (arith, small)) done

pub names_there : (s : Symbols) → AreFew s → (m : ℕ) → no_symbol m (all_symbols s) ≡ None
unfolding no_symbol
names_there s few m =
    symbols_there 105 0 m s.inputs (symbol_lines 108 0 s.latches ++ symbol_lines 111 0 s.outputs) refl refl (omega (arith, few.inputs))
    (λ k. symbols_there 108 0 k s.latches (symbol_lines 111 0 s.outputs) refl refl (omega (arith, few.latches))
    (λ j. ap (no_symbol j) (sym (append-nil (symbol_lines 111 0 s.outputs))) ∙ symbols_there 111 0 j s.outputs [] refl refl (omega (arith, few.outputs)) (λ i. refl)))

-- ---- the header

pub header_read : (most inputs latches outputs gates : ℕ) → most < 2 ^ 31 → inputs + latches + gates ≤ most → outputs < 2 ^ 64
    → header_of (fields (codes "aag" ++ more_numbers (most ∷ inputs ∷ latches ∷ outputs ∷ gates ∷ [])))
    ≡ Some (record { most = most; inputs = inputs; latches = latches; outputs = outputs; gates = gates })
unfolding header_of
header_read most inputs latches outputs gates small ample few =
    ap header_of (fields_behind (codes "aag") (most ∷ inputs ∷ latches ∷ outputs ∷ gates ∷ []) refl (fits_most, (fits_inputs, (fits_latches, (few, (fits_gates, tt))))))
    ∙ ap₂ (λ (a b : Option ℕ). if_ample (counts (both a b) (both (numeral (decimal latches)) (numeral (decimal outputs))) (numeral (decimal gates)))) (numeral_read most fits_most) (numeral_read inputs fits_inputs)
    ∙ ap₂ (λ (a b : Option ℕ). if_ample (counts (Some (most, inputs)) (both a b) (numeral (decimal gates)))) (numeral_read latches fits_latches) (numeral_read outputs few)
    ∙ ap (λ (a : Option ℕ). if_ample (counts (Some (most, inputs)) (Some (latches, outputs)) a)) (numeral_read gates fits_gates)
    ∙ ap₂ (λ (a b : Bool). cond (a && b) (Some (record { most = most; inputs = inputs; latches = latches; outputs = outputs; gates = gates })) None)
    (lt-ltb most (2 ^ 31) small) (le-leb (inputs + latches + gates) most ample)
  where
    fits_most : most < 2 ^ 64
    fits_most = omega (arith, small)

    fits_inputs : inputs < 2 ^ 64
    fits_inputs = omega (arith, small, ample)

    fits_latches : latches < 2 ^ 64
    fits_latches = omega (arith, small, ample)

    fits_gates : gates < 2 ^ 64
    fits_gates = omega (arith, small, ample)

-- ---- lines

map_in_lines : {A : Type 0} → (f : A → List ℕ) → (xs : List A) → ((x : A) → In x xs → IsInLine (f x)) → AreInLines (map f xs)
map_in_lines f [] each = tt
map_in_lines f (x ∷ xs) each = (each x (inl refl), map_in_lines f xs (λ y here. each y (inr here)))

symbols_in_lines : (letter k : ℕ) (names : List (List ℕ)) → (letter == 10) ≡ false → k + length names < 2 ^ 64 → AreInLines names → AreInLines (symbol_lines letter k names)
symbols_in_lines letter k [] other small within = tt
symbols_in_lines letter k (name ∷ names) other small within = (
  ap (λ (b : Bool). not b && list_all (λ (c : ℕ). not (c == 10)) (decimal k ++ 32 ∷ name)) other ∙ name_in_line k name (omega (arith, small)) within.0,
  symbols_in_lines letter (suc k) names other (omega (arith, small)) within.1,
)

pub all_in_lines : (s : Symbols) → AreFew s → AreInLines s.inputs → AreInLines s.latches → AreInLines s.outputs → AreInLines (all_symbols s)
all_in_lines s few inputs latches outputs =
    lines_joined (symbol_lines 105 0 s.inputs) (symbol_lines 108 0 s.latches ++ symbol_lines 111 0 s.outputs) (symbols_in_lines 105 0 s.inputs refl (omega (arith, few.inputs)) inputs)
    (lines_joined (symbol_lines 108 0 s.latches) (symbol_lines 111 0 s.outputs) (symbols_in_lines 108 0 s.latches refl (omega (arith, few.latches)) latches) (symbols_in_lines 111 0 s.outputs refl (omega (arith, few.outputs)) outputs))

-- literals that are printed as they are
pub record AreShort (t : Aiger) : Type 0 where
  pub inputs : (l : ℕ) → In l t.inputs → l < 2 ^ 64
  pub latches : (l : Latch) → In l t.latches → (l.literal < 2 ^ 64) × (l.next < 2 ^ 64)
  pub outputs : (l : ℕ) → In l t.outputs → l < 2 ^ 64
  pub gates : (g : AndGate) → In g t.gates → (g.literal < 2 ^ 64) × (g.left < 2 ^ 64) × (g.right < 2 ^ 64)

pub tree_in_lines : (t : Aiger) (s : Symbols) → AreShort t → AreInLines (all_symbols s) → AreInLines (tree_lines t s)
tree_in_lines t s short names =
    lines_joined (map literal_line t.inputs) _ (map_in_lines literal_line t.inputs (λ l here. line_of_numbers l [] (short.inputs l here, tt)))
    (lines_joined (map latch_line t.latches) _ (map_in_lines latch_line t.latches (λ l here. line_of_numbers l.literal (l.next ∷ l.literal ∷ []) ((short.latches l here).0, ((short.latches l here).1, ((short.latches l here).0, tt)))))
    (lines_joined (map literal_line t.outputs) _ (map_in_lines literal_line t.outputs (λ l here. line_of_numbers l [] (short.outputs l here, tt)))
    (lines_joined (map gate_line t.gates) (all_symbols s) (map_in_lines gate_line t.gates (λ g here. line_of_numbers g.literal (g.left ∷ g.right ∷ []) (
      (short.gates g here).0,
      (
        (short.gates g here).1,
        ((short.gates g here).2, tt),
      ),
    ))) names)))
