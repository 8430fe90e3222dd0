use Rattle.std.proofs.Common.{◌++◌, ◌∷◌, [], ◌+◌, ◌-◌, ap, ◌∙◌}
use Rattle.std.proofs.lemmas.List.{map-append}
use Rattle.hw_model.specs.Design.Ref.{result as result_ref}
use Rattle.ir_store.specs.declared.operation.Value.TheVariants.{Result}
use Rattle.aggregate_laws.specs.Leaves.{in_row}
use Rattle.lowering_rules.specs.Reading.{new_ref, new_refs}
use Rattle.lowering_rules.proofs.Shaping.{rule_more}
use Rattle.aggregate_lower.proofs.made.push_results.Goals as goal

pub loop-number-preserved : goal.loop-number-preserved
loop-number-preserved c =
    let at = c.loop-number.number in
    let now = c.loop-number.targets.items in
    ap (λ xs. xs ++ in_row (λ i. result_ref i 0) (at + 1) (c.args.high - (at + 1)))
    (ap new_refs c.in_ok-push.ensures.items ∙ map-append new_ref now (Result c.nth.result 0 ∷ []) ∙ ap (λ i. new_refs now ++ result_ref i 0 ∷ []) (ap (λ w. w.index) c.nth.ensures))
    ∙ rule_more (λ i. result_ref i 0) (new_refs now) _ at c.args.high c.loop-number-test.true c.loop-number.invariant
