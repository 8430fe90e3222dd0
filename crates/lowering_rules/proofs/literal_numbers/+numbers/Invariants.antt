use Rattle.std.proofs.Common.{◌≡◌, ◌++◌, map, drop}
use Rattle.hw_model.specs.KindViews.{integer_of, literal_of, literals_of}
use Rattle.aggregate_laws.specs.OperationRules.{literals_numbers}
use Rattle.lowering_rules.proofs.literal_numbers.+numbers.Given as goal

abbrev pub invariant-push_all_numbers-loop-literal : goal.invariant-push_all_numbers-loop-literal
invariant-push_all_numbers-loop-literal l =
    map integer_of l.numbers.items ++ literals_numbers (literals_of (map literal_of (drop l.literal-index l.literals))) ≡ map integer_of l.fn.numbers.items ++ literals_numbers (literals_of (map literal_of l.literals))
