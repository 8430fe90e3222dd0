use Rattle.std.proofs.Common.{◌++◌, ◌∷◌, [], ℕ, ◌+◌, ◌-◌, ap, ◌∙◌}
use Rattle.aggregate_laws.specs.Leaves.{in_row}
use Rattle.aggregate_laws.specs.Choices.{element_of}
use Rattle.lowering_rules.proofs.Shaping.{rule_more}
use Rattle.lowering_rules.proofs.shapes.sizes_from.Goals as goal

pub loop-leaf-preserved : goal.loop-leaf-preserved
loop-leaf-preserved c =
    let size = λ (i : ℕ). c.args.length - element_of c.args.own c.args.element i in
    let at = c.loop-leaf.leaf in
    ap (λ xs. xs ++ in_row size (at + 1) (c.args.count - (at + 1)))
    (c.in_ok-push.ensures.items ∙ ap (λ n. c.loop-leaf.sizes.items ++ n ∷ []) (c.saturating_sub.ensures ∙ ap (λ n. c.args.length - n) c.in_ok-first.ensures))
    ∙ rule_more size c.loop-leaf.sizes.items (in_row size 0 c.args.count) at c.args.count c.loop-leaf-test.true c.loop-leaf.invariant
