use Rattle.std.proofs.Common.{◌≡◌, map}
use Rattle.std.specs.Option.{option_map}
use Rattle.hw_model.specs.TypeViews.{type_of, field_of, fields_of}
use Rattle.hw_model.specs.Sound.{field_list}
use Rattle.op_checks.specs.TypeLists.{known_types, differ}
use Rattle.op_checks.proofs.type_lists.differ_from_fields.Given as goal

abbrev pub invariant-loop-operand : goal.invariant-loop-operand
invariant-loop-operand l = differ (map (option_map (λ t. type_of t.now)) l.operands) (known_types (field_list (fields_of (map field_of l.fields))))
    ≡ differ (map (option_map (λ t. type_of t.now)) l.operand-iterator.a.rest.now) (known_types (field_list (fields_of (map field_of l.operand-iterator.b.rest.now))))
