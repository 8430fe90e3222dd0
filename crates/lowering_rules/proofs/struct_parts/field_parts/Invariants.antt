use Rattle.std.proofs.Common.{◌≡◌, map, drop}
use Rattle.hw_model.specs.TypeViews.{field_of, fields_of}
use Rattle.aggregate_laws.specs.OperationRules.{field_parts}
use Rattle.lowering_rules.specs.Reading.{new_refs}
use Rattle.lowering_rules.proofs.struct_parts.field_parts.Given as goal

abbrev pub invariant-loop-field : goal.invariant-loop-field
invariant-loop-field l = field_parts (fields_of (map field_of (drop l.field-index l.list))) l.name (new_refs l.rest) ≡ field_parts (fields_of (map field_of l.list)) l.name (new_refs l.values)
