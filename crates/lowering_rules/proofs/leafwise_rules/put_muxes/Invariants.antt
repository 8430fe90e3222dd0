use Rattle.std.proofs.Common.{◌≡◌, ◌++◌, ◌∷◌, [], map, drop}
use Rattle.hw_model.specs.TypeViews.{type_of}
use Rattle.hw_model.specs.Kinds.Kind.{mux}
use Rattle.aggregate_laws.specs.Leaves.{part}
use Rattle.aggregate_laws.specs.OperationRules.{made_op, argument, for_each}
use Rattle.lowering_rules.specs.Reading.{plain_of}
use Rattle.lowering_rules.specs.LeafTables.{arguments_of}
use Rattle.lowering_rules.specs.Made.{made_in}
use Rattle.lowering_rules.proofs.leafwise_rules.put_muxes.Given as goal

abbrev pub invariant-loop-number : goal.invariant-loop-number
invariant-loop-number l =
    made_in l.made.items
    ++ for_each (λ i t. made_op (plain_of l.op) mux (part (argument 0 (arguments_of l.arguments)) 0 ∷ part (argument 1 (arguments_of l.arguments)) i
    ∷ part (argument 2 (arguments_of l.arguments)) i ∷ []) (t ∷ []) [] t) l.number (map type_of (drop l.number l.leaves))
    ≡ made_in l.fn.made.items
    ++ for_each (λ i t. made_op (plain_of l.op) mux (part (argument 0 (arguments_of l.arguments)) 0 ∷ part (argument 1 (arguments_of l.arguments)) i
    ∷ part (argument 2 (arguments_of l.arguments)) i ∷ []) (t ∷ []) [] t) 0 (map type_of l.leaves)
