use Rattle.std.proofs.Common.{◌≡◌, ◌++◌, ◌∷◌, [], map, drop}
use Rattle.std.specs.Prelude.{◌%◌}
use Rattle.hw_model.specs.TypeViews.{type_of}
use Rattle.hw_model.specs.Kinds.Kind.{mux}
use Rattle.aggregate_laws.specs.Leaves.{part}
use Rattle.aggregate_laws.specs.OperationRules.{made_op, argument, for_each}
use Rattle.aggregate_laws.specs.Choices.{test_at, element_of}
use Rattle.lowering_rules.specs.Reading.{plain_of}
use Rattle.lowering_rules.specs.LeafTables.{arguments_of}
use Rattle.lowering_rules.specs.Made.{made_in}
use Rattle.lowering_rules.proofs.choice_rules.put_injections.Given as goal

abbrev pub invariant-loop-number : goal.invariant-loop-number
invariant-loop-number l =
    made_in l.made.items
    ++ for_each (λ i t. made_op (plain_of l.op) mux (test_at l.start (element_of l.length l.own i) ∷ part (argument 2 (arguments_of l.arguments)) (i % l.own)
    ∷ part (argument 0 (arguments_of l.arguments)) i ∷ []) (t ∷ []) [] t) l.number (map type_of (drop l.number l.leaves))
    ≡ made_in l.fn.made.items
    ++ for_each (λ i t. made_op (plain_of l.op) mux (test_at l.start (element_of l.length l.own i) ∷ part (argument 2 (arguments_of l.arguments)) (i % l.own)
    ∷ part (argument 0 (arguments_of l.arguments)) i ∷ []) (t ∷ []) [] t) 0 (map type_of l.leaves)
