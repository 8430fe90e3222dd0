use Rattle.std.proofs.Common.{◌≡◌, map, length}
use Rattle.hw_model.specs.TypeViews.{field_of, fields_of}
use Rattle.op_checks.specs.TypeChecks.{has_name_twice}
use Rattle.op_checks.proofs.type_checks.has_name_twice.Given as goal

abbrev pub invariant-loop-first : goal.invariant-loop-first
invariant-loop-first l = has_name_twice (fields_of (map field_of l.fields)) ≡ has_name_twice (fields_of (map field_of l.rest))

abbrev pub decreases-loop-first : goal.decreases-loop-first
decreases-loop-first l = length l.rest
