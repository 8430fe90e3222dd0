use Rattle.std.proofs.Common.{◌≡◌, ◌++◌, ◌∷◌, [], map, drop}
use Rattle.hw_model.specs.TypeViews.{type_of}
use Rattle.hw_model.specs.KindViews.{kind_of}
use Rattle.aggregate_laws.specs.Leaves.{leaf_operands}
use Rattle.aggregate_laws.specs.OperationRules.{made_op, for_each}
use Rattle.aggregate_laws.specs.Aggregates.{name_at}
use Rattle.lowering_rules.specs.FormRules.{register_form_of}
use Rattle.lowering_rules.specs.Reading.{plain_of}
use Rattle.lowering_rules.specs.LeafTables.{arguments_of}
use Rattle.lowering_rules.specs.Made.{made_in}
use Rattle.lowering_rules.proofs.leafwise_rules.put_registers.Given as goal

abbrev pub invariant-loop-number : goal.invariant-loop-number
invariant-loop-number l =
    made_in l.made.items
    ++ for_each (λ i t. made_op (plain_of l.op) (kind_of l.op.kind.now) (leaf_operands (register_form_of l.form).has_enable (register_form_of l.form).reset (arguments_of l.arguments) i) (t ∷ [])
    (name_at l.names.items i) t) l.number (map type_of (drop l.number l.leaves))
    ≡ made_in l.fn.made.items
    ++ for_each (λ i t. made_op (plain_of l.op) (kind_of l.op.kind.now) (leaf_operands (register_form_of l.form).has_enable (register_form_of l.form).reset (arguments_of l.arguments) i) (t ∷ [])
    (name_at l.names.items i) t) 0 (map type_of l.leaves)
