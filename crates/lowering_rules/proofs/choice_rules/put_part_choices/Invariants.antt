use Rattle.std.proofs.Common.{◌≡◌, ◌+◌, ◌-◌, ◌++◌, map, drop}
use Rattle.std.specs.Prelude.{◌%◌}
use Rattle.hw_model.specs.TypeViews.{type_of}
use Rattle.aggregate_laws.specs.Choices.{test_at, leaf_choices, element_leaf, element_of}
use Rattle.lowering_rules.specs.Reading.{plain_of, new_refs}
use Rattle.lowering_rules.specs.Made.{made_in}
use Rattle.lowering_rules.proofs.choice_rules.put_part_choices.Given as goal

abbrev pub invariant-loop-number : goal.invariant-loop-number
invariant-loop-number l =
    made_in l.made.items
    ++ leaf_choices (plain_of l.op) (test_at l.elements.tests) (λ i e. element_leaf l.elements.length l.elements.leaves (new_refs l.elements.values.now) (i % l.elements.leaves) (e + element_of l.own l.elements.leaves i))
    (λ i. l.elements.length - element_of l.own l.elements.leaves i) l.next l.number (map type_of (drop l.number l.leaves))
    ≡ made_in l.fn.made.items
    ++ leaf_choices (plain_of l.op) (test_at l.elements.tests) (λ i e. element_leaf l.elements.length l.elements.leaves (new_refs l.elements.values.now) (i % l.elements.leaves) (e + element_of l.own l.elements.leaves i))
    (λ i. l.elements.length - element_of l.own l.elements.leaves i) l.start 0 (map type_of l.leaves)
