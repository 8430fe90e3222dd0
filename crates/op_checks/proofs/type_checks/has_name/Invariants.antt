use Rattle.std.proofs.Common.{◌≡◌, map, drop}
use Rattle.hw_model.specs.TypeViews.{field_of, fields_of}
use Rattle.op_checks.specs.TypeChecks.{has_name}
use Rattle.op_checks.proofs.type_checks.has_name.Given as goal

abbrev pub invariant-loop-field : goal.invariant-loop-field
invariant-loop-field l = has_name l.name (fields_of (map field_of l.fields)) ≡ has_name l.name (fields_of (map field_of (drop l.field-index l.fields)))
