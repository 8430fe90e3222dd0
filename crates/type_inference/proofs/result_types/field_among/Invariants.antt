use Rattle.std.proofs.Common.{◌≡◌, map, drop}
use Rattle.hw_model.specs.TypeViews.{field_of, fields_of}
use Rattle.hw_model.specs.Sound.{field_type}
use Rattle.type_inference.proofs.result_types.field_among.Given as goal

abbrev pub invariant-loop-field : goal.invariant-loop-field
invariant-loop-field l = field_type (fields_of (map field_of l.fields)) l.name ≡ field_type (fields_of (map field_of (drop l.field-index l.fields))) l.name
