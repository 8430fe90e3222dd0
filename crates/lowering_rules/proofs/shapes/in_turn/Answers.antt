use Rattle.std.proofs.Common.{◌++◌, ◌+◌, ◌-◌, ap, ◌∙◌}
use Rattle.aggregate_laws.specs.Leaves.{in_row}
use Rattle.lowering_rules.proofs.Shaping.{rule_more}
use Rattle.lowering_rules.proofs.shapes.in_turn.Goals as goal

pub loop-offset-preserved : goal.loop-offset-preserved
loop-offset-preserved c =
    let at = c.loop-offset.offset in
    let end = c.in_ok-count.count in
    ap (λ xs. xs ++ in_row (λ i. i) (at + 1) (end - (at + 1))) c.in_ok-push.ensures.items
    ∙ rule_more (λ i. i) c.loop-offset.offsets.items (in_row (λ i. i) c.args.first c.args.leaves) at end c.loop-offset-test.true c.loop-offset.invariant
