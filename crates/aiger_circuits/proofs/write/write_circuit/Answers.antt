use Rattle.std.proofs.Common.{◌≡◌, ℕ, ◌+◌, ◌-◌, ◌≤◌, List, [], ◌∷◌, ◌++◌, map, length, sym, ap, ap₂, ◌∙◌, arith}
use Rattle.std.specs.Prelude.{codes}
use Rattle.gates.specs.declared.signal.Gate.{Gate}
use Rattle.aiger_circuits.specs.CircuitTrees.{signal_literal, literals_from, latches_from, gates_from, circuit_tree}
use Rattle.aiger_circuits.specs.CircuitTexts.{more_numbers, literal_line, latch_line, gate_line, symbol_lines, ended_lines, tree_text}
use Rattle.aiger_circuits.specs.Written.{symbols_of}
use Rattle.aiger_circuits.proofs.Writing.{text_parts}
use Rattle.aiger_circuits.proofs.write.write_circuit.Goals as goal

pub returns : goal.returns
returns c =
    let nexts = c.args.nexts.now in
    let outputs = c.args.outputs.now in
    let names = symbols_of c.args.names in
    let few : length nexts ≤ c.args.circuit.now.inputs = c.requires in
    let all : c.from.result ≡ c.args.circuit.now.inputs = c.from.ensures ∙ c.inputs.ensures in
    let same : c.from-2.result ≡ c.args.circuit.now.inputs = c.from-2.ensures ∙ c.inputs-2.ensures in
    let again : c.from-3.result ≡ c.args.circuit.now.inputs = c.from-3.ensures ∙ c.inputs-3.ensures in
    let inputs = c.from.result - length nexts in
    let gates = c.as_slice-2.result.now in
    let most = c.from-2.result + length c.as_slice.result.now in
    let kept : c.as_slice.result.now ≡ c.args.circuit.now.gates = c.as_slice.ensures in
    let shown : gates ≡ c.args.circuit.now.gates = c.as_slice-2.ensures in
    let alike : length c.as_slice.result.now ≡ length gates = ap length kept ∙ sym (ap length shown) in
    c.in_ok-push_symbols-3.ensures
    ∙ ap (λ (t : List ℕ). t ++ ended_lines (symbol_lines 111 0 names.outputs)) (c.in_ok-push_symbols-2.ensures
    ∙ ap (λ (t : List ℕ). t ++ ended_lines (symbol_lines 108 0 names.latches)) (c.in_ok-push_symbols.ensures
    ∙ ap (λ (t : List ℕ). t ++ ended_lines (symbol_lines 105 0 names.inputs)) (c.in_ok-push_gates.ensures
    ∙ ap (λ (t : List ℕ). t ++ ended_lines (map gate_line (gates_from (c.from-3.result + 1) gates))) (c.in_ok-push_outputs.ensures
    ∙ ap (λ (t : List ℕ). t ++ ended_lines (map literal_line (map signal_literal outputs))) (c.in_ok-push_latches.ensures
    ∙ ap (λ (t : List ℕ). t ++ ended_lines (map latch_line (latches_from (inputs + 1) nexts))) (c.in_ok-push_inputs.ensures
    ∙ ap (λ (t : List ℕ). t ++ ended_lines (map literal_line (literals_from 1 inputs)))
    (c.in_ok-push_header.ensures ∙ ap₂ (λ (t : List ℕ) (n : ℕ). t ++ ended_lines ((codes "aag" ++ more_numbers (most ∷ inputs ∷ length nexts ∷ length outputs ∷ n ∷ [])) ∷ [])) c.new-text.ensures alike)))))))
    ∙ text_parts inputs outputs nexts gates names most (inputs + 1) (c.from-3.result + 1) (omega (arith, few, all, same, alike)) (omega arith) (omega (arith, few, all, again))
    ∙ ap₂ (λ (n : ℕ) (gs : List Gate). tree_text (circuit_tree (n - length nexts) outputs nexts gs) names) all shown
