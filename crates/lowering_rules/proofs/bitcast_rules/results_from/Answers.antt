use Rattle.std.proofs.Common.{ℕ, ◌+◌, ◌-◌, ◌∷◌, ◌++◌, [], ap, ◌∙◌}
use Rattle.std.proofs.lemmas.List.{map-append}
use Rattle.hw_model.specs.Design.Ref.{result}
use Rattle.ir_store.specs.declared.operation.Value.TheVariants.{Result}
use Rattle.aggregate_laws.specs.Leaves.{in_row}
use Rattle.lowering_rules.specs.Reading.{new_ref, new_refs}
use Rattle.lowering_rules.proofs.Shaping.{rule_more}
use Rattle.lowering_rules.proofs.bitcast_rules.results_from.Goals as goal

pub loop-number-preserved : goal.loop-number-preserved
loop-number-preserved c =
    let first = λ (i : ℕ). result i 0 in
    let at = c.loop-number.number in
    let end = c.in_ok-end.end in
    let before = c.loop-number.values.items in
    ap (λ xs. xs ++ in_row first (at + 1) (end - (at + 1)))
    (ap new_refs c.in_ok-push.ensures.items
    ∙ map-append new_ref before (Result c.nth.result 0 ∷ [])
    ∙ ap (λ id. new_refs before ++ (result id.index 0 ∷ [])) c.nth.ensures)
    ∙ rule_more first (new_refs before) (in_row first c.args.start c.args.count) at end c.loop-number-test.true c.loop-number.invariant
