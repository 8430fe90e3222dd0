use Rattle.std.proofs.Common.{◌≡◌, map, drop}
use Rattle.hw_model.specs.TypeViews.{field_of, fields_of}
use Rattle.op_checks.specs.TypeChecks.{has_bad_part_among}
use Rattle.op_checks.proofs.type_checks.+bad_part.Given as goal

abbrev pub invariant-has_bad_part_among-loop-field : goal.invariant-has_bad_part_among-loop-field
invariant-has_bad_part_among-loop-field l = has_bad_part_among (fields_of (map field_of l.fields)) ≡ has_bad_part_among (fields_of (map field_of (drop l.field-index l.fields)))
