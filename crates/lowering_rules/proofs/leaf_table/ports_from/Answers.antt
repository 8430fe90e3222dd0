use Rattle.std.proofs.Common.{◌++◌, ◌∷◌, [], ◌+◌, ◌-◌, ap, ◌∙◌}
use Rattle.std.proofs.lemmas.List.{map-append}
use Rattle.hw_model.specs.Design.Ref.{port}
use Rattle.ir_store.specs.declared.operation.Value.TheVariants.{Port}
use Rattle.aggregate_laws.specs.Leaves.{in_row}
use Rattle.lowering_rules.specs.Reading.{new_ref, new_refs}
use Rattle.lowering_rules.proofs.Shaping.{rule_more}
use Rattle.lowering_rules.proofs.leaf_table.ports_from.Goals as goal

pub loop-number-preserved : goal.loop-number-preserved
loop-number-preserved c =
    let at = c.loop-number.number in
    let end = c.in_ok-end.end in
    let now = c.loop-number.values.items in
    ap (λ xs. xs ++ in_row port (at + 1) (end - (at + 1))) (ap new_refs c.in_ok-push.ensures.items ∙ map-append new_ref now (Port at ∷ []))
    ∙ rule_more port (new_refs now) (in_row port c.args.first c.args.count) at end c.loop-number-test.true c.loop-number.invariant
