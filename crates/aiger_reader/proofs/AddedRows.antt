-- The line that comes next, by the section that it stands in.
use Rattle.std.proofs.Common.{◌≡◌, ℕ, ◌+◌, ◌<◌, ◌≤◌, ◌^◌, ◌||◌, Bool, true, false, cond, List, length, refl, sym, ap, ◌∙◌, arith, nat_lt}
use Rattle.std.specs.Prelude.{Option, option_map, Result}
use Rattle.std.proofs.lemmas.Bool.{lt-ltb, le-ltb, ltb-true}
use Rattle.aiger_laws.specs.declared.fault.Fault.{Fault}
use Rattle.aiger_laws.specs.declared.tree.Latch.{Latch}
use Rattle.aiger_laws.specs.declared.tree.AndGate.{AndGate}
use Rattle.aiger_laws.specs.Trees.{Aiger}
use Rattle.aiger_laws.specs.Rows.{Header, is_ample, input_added, latch_added, output_added, gate_added, one_number, latch_of, gate_of, row_added, has_more}
use Rattle.aiger_reader.specs.Saturated.{saturated, saturated_latch, saturated_gate}
use Rattle.aiger_reader.proofs.SaturatedRows.{ample_parts}
use Rattle.aiger_reader.proofs.SaturatedLines.{input_saturated, latch_saturated, output_saturated, gate_saturated}

-- the line, by the three tests
abbrev row_by : Header → Aiger → List (List ℕ) → Bool → Bool → Bool → Result Aiger Fault
row_by h t ws a b c =
    cond a (input_added h.most t (one_number ws)) (cond b (latch_added h.most t (latch_of ws)) (cond c (output_added h.most t (one_number ws)) (gate_added h.most t (gate_of ws))))

module _ (h : Header) (t : Aiger) (ws : List (List ℕ)) where
  row_is : row_added h t ws ≡ row_by h t ws (nat_lt (length t.inputs) h.inputs) (nat_lt (length t.latches) h.latches) (nat_lt (length t.outputs) h.outputs)
  unfolding row_added
  row_is = refl

  pub row_input : (o : Option ℕ) → o ≡ option_map saturated (one_number ws) → h.most < 2 ^ 31 → length t.inputs < h.inputs → input_added h.most t o ≡ row_added h t ws
  row_input o told small below =
      ap (input_added h.most t) told ∙ input_saturated h.most t (one_number ws) small
      ∙ sym (row_is ∙ ap (λ (a : Bool). row_by h t ws a (nat_lt (length t.latches) h.latches) (nat_lt (length t.outputs) h.outputs)) (lt-ltb (length t.inputs) h.inputs below))

  pub row_latch : (o : Option Latch) → o ≡ option_map saturated_latch (latch_of ws) → h.most < 2 ^ 31 → h.inputs ≤ length t.inputs → length t.latches < h.latches → latch_added h.most t o ≡ row_added h t ws
  row_latch o told small past below =
      ap (latch_added h.most t) told ∙ latch_saturated h.most t (latch_of ws) small
      ∙ sym (row_is ∙ ap (λ (a : Bool). row_by h t ws a (nat_lt (length t.latches) h.latches) (nat_lt (length t.outputs) h.outputs)) (le-ltb (length t.inputs) h.inputs past)
      ∙ ap (λ (b : Bool). row_by h t ws false b (nat_lt (length t.outputs) h.outputs)) (lt-ltb (length t.latches) h.latches below))

  pub row_output : (o : Option ℕ) → o ≡ option_map saturated (one_number ws) → h.most < 2 ^ 31 → h.inputs ≤ length t.inputs → h.latches ≤ length t.latches → length t.outputs < h.outputs
      → output_added h.most t o ≡ row_added h t ws
  row_output o told small past behind below =
      ap (output_added h.most t) told ∙ output_saturated h.most t (one_number ws) small
      ∙ sym (row_is ∙ ap (λ (a : Bool). row_by h t ws a (nat_lt (length t.latches) h.latches) (nat_lt (length t.outputs) h.outputs)) (le-ltb (length t.inputs) h.inputs past)
      ∙ ap (λ (b : Bool). row_by h t ws false b (nat_lt (length t.outputs) h.outputs)) (le-ltb (length t.latches) h.latches behind)
      ∙ ap (row_by h t ws false false) (lt-ltb (length t.outputs) h.outputs below))

  pub row_gate : (o : Option AndGate) → o ≡ option_map saturated_gate (gate_of ws) → h.most < 2 ^ 31 → h.inputs ≤ length t.inputs → h.latches ≤ length t.latches → h.outputs ≤ length t.outputs
      → gate_added h.most t o ≡ row_added h t ws
  row_gate o told small past behind above =
      ap (gate_added h.most t) told ∙ gate_saturated h.most t (gate_of ws) small
      ∙ sym (row_is ∙ ap (λ (a : Bool). row_by h t ws a (nat_lt (length t.latches) h.latches) (nat_lt (length t.outputs) h.outputs)) (le-ltb (length t.inputs) h.inputs past)
      ∙ ap (λ (b : Bool). row_by h t ws false b (nat_lt (length t.outputs) h.outputs)) (le-ltb (length t.latches) h.latches behind)
      ∙ ap (row_by h t ws false false) (le-ltb (length t.outputs) h.outputs above))

-- where a gate comes next, there are few of them
pub gates_few : (h : Header) (t : Aiger) → is_ample h ≡ true → has_more h t ≡ true → h.inputs ≤ length t.inputs → h.latches ≤ length t.latches → h.outputs ≤ length t.outputs → length t.gates < 2 ^ 31
unfolding has_more
gates_few h t ample more past behind above =
    let parts = ample_parts h ample in
    let first : has_more h t ≡ (nat_lt (length t.latches) h.latches || (nat_lt (length t.outputs) h.outputs || nat_lt (length t.gates) h.gates)) =
    ap (λ (a : Bool). a || (nat_lt (length t.latches) h.latches || (nat_lt (length t.outputs) h.outputs || nat_lt (length t.gates) h.gates))) (le-ltb (length t.inputs) h.inputs past) in
    let second : (nat_lt (length t.latches) h.latches || (nat_lt (length t.outputs) h.outputs || nat_lt (length t.gates) h.gates)) ≡ (nat_lt (length t.outputs) h.outputs || nat_lt (length t.gates) h.gates) =
    ap (λ (a : Bool). a || (nat_lt (length t.outputs) h.outputs || nat_lt (length t.gates) h.gates)) (le-ltb (length t.latches) h.latches behind) in
    let third : (nat_lt (length t.outputs) h.outputs || nat_lt (length t.gates) h.gates) ≡ nat_lt (length t.gates) h.gates =
    ap (λ (a : Bool). a || nat_lt (length t.gates) h.gates) (le-ltb (length t.outputs) h.outputs above) in
    let below : length t.gates < h.gates = ltb-true (length t.gates) h.gates (sym (first ∙ second ∙ third) ∙ more) in
    omega (arith, below, parts.0, parts.1)
