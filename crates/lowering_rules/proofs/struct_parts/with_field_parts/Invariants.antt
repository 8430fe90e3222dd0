use Rattle.std.proofs.Common.{◌≡◌, ◌++◌, map, drop}
use Rattle.hw_model.specs.TypeViews.{field_of, fields_of}
use Rattle.aggregate_laws.specs.OperationRules.{with_field_parts}
use Rattle.lowering_rules.specs.Reading.{new_refs}
use Rattle.lowering_rules.proofs.struct_parts.with_field_parts.Given as goal

abbrev pub invariant-loop-field : goal.invariant-loop-field
invariant-loop-field l =
    new_refs l.all.items ++ with_field_parts (fields_of (map field_of (drop l.field-index l.list))) l.name (new_refs l.rest) (new_refs l.given)
    ≡ with_field_parts (fields_of (map field_of l.list)) l.name (new_refs l.values) (new_refs l.given)
