use Rattle.std.proofs.Common.{◌≡◌, map, drop}
use Rattle.hw_model.specs.TypeViews.{field_of, fields_of}
use Rattle.op_checks.specs.TypeChecks.{has_clock_among}
use Rattle.op_checks.proofs.type_checks.+clock.Given as goal

abbrev pub invariant-has_clock_among-loop-field : goal.invariant-has_clock_among-loop-field
invariant-has_clock_among-loop-field l = has_clock_among (fields_of (map field_of l.fields)) ≡ has_clock_among (fields_of (map field_of (drop l.field-index l.fields)))
