use Rattle.std.proofs.Common.{rules, ◌≡◌, ℕ, ◌+◌, ◌||◌, Bool, List, length, ap₂, ◌∙◌, arith}
use Rattle.aiger_laws.specs.declared.tree.Latch.{Latch}
use Rattle.aiger_laws.specs.declared.tree.AndGate.{AndGate}
use Rattle.aiger_laws.specs.Grammar.{first_from, or_later, latch_line, output_line, gate_line}
use Rattle.aiger_reader.specs.Kept.{tree_of, drivers_of}
use Rattle.aiger_reader.specs.Searched.{lacks}
use Rattle.aiger_reader.proofs.LackingDrivers.{undefined_known}
use Rattle.aiger_reader.proofs.undefined.undefined_line.Goals as goal

pub returns : goal.returns
returns c =
    let t = tree_of c.args.text.now in
    let d = drivers_of c.args.text.now.drivers in
    let inputs : c.len.result ≡ length c.args.text.now.inputs.items = search rules in
    let latches : c.len-2.result ≡ length c.args.text.now.latches.items = search rules in
    let outputs : c.len-3.result ≡ length c.args.text.now.outputs.items = search rules in
    let first : 2 + c.len.result ≡ latch_line t = omega (arith, inputs) in
    let second : 2 + c.len.result + c.len-2.result ≡ output_line t = omega (arith, inputs, latches) in
    let third : 2 + c.len.result + c.len-2.result + c.len-3.result ≡ gate_line t = omega (arith, inputs, latches, outputs) in
    c.or_later-2.ensures
    ∙ ap₂ or_later
    (c.undefined_latch.ensures ∙ ap₂ (λ (n : ℕ) (xs : List Latch). first_from (λ (x : Latch). lacks d x.next) n xs) first c.deref.ensures.value)
    (c.or_later.ensures
    ∙ ap₂ or_later
    (c.undefined_output.ensures ∙ ap₂ (λ (n : ℕ) (xs : List ℕ). first_from (lacks d) n xs) second c.deref-2.ensures.value)
    (c.undefined_gate.ensures ∙ ap₂ (λ (n : ℕ) (xs : List AndGate). first_from (λ (x : AndGate). lacks d x.left || lacks d x.right) n xs) third c.deref-3.ensures.value))
    ∙ undefined_known t d c.requires.knows
