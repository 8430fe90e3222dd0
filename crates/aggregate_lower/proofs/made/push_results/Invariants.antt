use Rattle.std.proofs.Common.{◌≡◌, ◌++◌, ◌-◌}
use Rattle.hw_model.specs.Design.Ref.{result as result_ref}
use Rattle.aggregate_laws.specs.Leaves.{in_row}
use Rattle.lowering_rules.specs.Reading.{new_refs}
use Rattle.aggregate_lower.proofs.made.push_results.Given as goal

abbrev pub invariant-loop-number : goal.invariant-loop-number
invariant-loop-number l =
    new_refs l.targets.items ++ in_row (λ i. result_ref i 0) l.number (l.high - l.number) ≡ new_refs l.fn.targets.items ++ in_row (λ i. result_ref i 0) l.low (l.high - l.low)
