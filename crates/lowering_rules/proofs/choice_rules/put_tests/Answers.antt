use Rattle.std.proofs.Common.{◌+◌, ◌-◌, ◌++◌, ap₂, ◌∙◌}
use Rattle.aggregate_laws.specs.Choices.{tests}
use Rattle.lowering_rules.specs.Reading.{plain_of, new_ref}
use Rattle.lowering_rules.specs.Made.{made_in}
use Rattle.lowering_rules.proofs.ChoiceSteps.{tests_more}
use Rattle.lowering_rules.proofs.choice_rules.put_tests.Goals as goal

pub loop-number-preserved : goal.loop-number-preserved
loop-number-preserved c =
    let o = plain_of c.args.op.now in
    let w = c.args.width in
    let index = new_ref c.args.index in
    let at = c.loop-number.number in
    let count = c.args.count in
    ap₂ (λ os j. os ++ tests o w index j (at + 1) (count - (at + 1))) c.in_ok-put_test.ensures c.in_ok-next.ensures
    ∙ tests_more o w index (made_in c.loop-number.made.items) (made_in c.args.made.now.items ++ tests o w index c.args.start 0 count) c.loop-number.next at count c.loop-number-test.true c.loop-number.invariant
