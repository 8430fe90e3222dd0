use Rattle.std.proofs.Common.{◌≡◌, ◌++◌, ◌-◌}
use Rattle.aggregate_laws.specs.Choices.{tests}
use Rattle.lowering_rules.specs.Reading.{plain_of, new_ref}
use Rattle.lowering_rules.specs.Made.{made_in}
use Rattle.lowering_rules.proofs.choice_rules.put_tests.Given as goal

abbrev pub invariant-loop-number : goal.invariant-loop-number
invariant-loop-number l =
    made_in l.made.items ++ tests (plain_of l.op) l.width (new_ref l.index) l.next l.number (l.count - l.number)
    ≡ made_in l.fn.made.items ++ tests (plain_of l.op) l.width (new_ref l.index) l.start 0 l.count
