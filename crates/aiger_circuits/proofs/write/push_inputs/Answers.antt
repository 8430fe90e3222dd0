use Rattle.std.proofs.Common.{◌+◌, ◌-◌, ◌*◌, ◌<◌, ◌++◌, ◌∷◌, ℕ, List, [], map, sym, ap, ◌∙◌, append_assoc}
use Rattle.aiger_circuits.specs.CircuitTrees.{literals_from}
use Rattle.aiger_circuits.specs.CircuitTexts.{literal_line, ended_lines}
use Rattle.aiger_circuits.proofs.Writing.{literals_next, ended_append}
use Rattle.aiger_circuits.proofs.write.push_inputs.Goals as goal

pub loop-number-preserved : goal.loop-number-preserved
loop-number-preserved c =
    let n = c.loop-number.number in
    let count = c.args.count in
    let rest = map literal_line (literals_from (1 + (n + 1)) (count - (n + 1))) in
    let less : n < count = c.loop-number-test.true in
    ap (λ (t : List ℕ). t ++ ended_lines rest) c.in_ok-push_one.ensures
    ∙ append_assoc c.loop-number.text (ended_lines (literal_line (2 * (n + 1)) ∷ [])) (ended_lines rest)
    ∙ ap (λ (t : List ℕ). c.loop-number.text ++ t) (sym (ended_append (literal_line (2 * (n + 1)) ∷ []) rest))
    ∙ ap (λ (ls : List ℕ). c.loop-number.text ++ ended_lines (map literal_line ls)) (sym (literals_next n count less))
    ∙ c.loop-number.invariant
