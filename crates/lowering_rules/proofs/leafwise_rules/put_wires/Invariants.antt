use Rattle.std.proofs.Common.{◌≡◌, ◌++◌, ◌∷◌, [], map, drop}
use Rattle.hw_model.specs.TypeViews.{type_of}
use Rattle.hw_model.specs.Kinds.Kind.{wire}
use Rattle.aggregate_laws.specs.Leaves.{part}
use Rattle.aggregate_laws.specs.OperationRules.{made_op, for_each}
use Rattle.aggregate_laws.specs.Aggregates.{name_at}
use Rattle.lowering_rules.specs.Reading.{plain_of, new_refs}
use Rattle.lowering_rules.specs.Made.{made_in}
use Rattle.lowering_rules.proofs.leafwise_rules.put_wires.Given as goal

abbrev pub invariant-loop-number : goal.invariant-loop-number
invariant-loop-number l =
    made_in l.made.items ++ for_each (λ i t. made_op (plain_of l.op) wire (part (new_refs l.values) i ∷ []) (t ∷ []) (name_at l.names i) t) l.number (map type_of (drop l.number l.leaves))
    ≡ made_in l.fn.made.items ++ for_each (λ i t. made_op (plain_of l.op) wire (part (new_refs l.values) i ∷ []) (t ∷ []) (name_at l.names i) t) 0 (map type_of l.leaves)
