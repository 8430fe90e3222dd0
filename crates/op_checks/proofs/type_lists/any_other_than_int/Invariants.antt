use Rattle.std.proofs.Common.{◌≡◌, map, drop}
use Rattle.std.specs.Prelude.{not}
use Rattle.std.specs.List.{list_any}
use Rattle.hw_model.specs.TypeViews.{type_of}
use Rattle.op_checks.specs.TypeChecks.{is_int}
use Rattle.op_checks.proofs.type_lists.any_other_than_int.Given as goal

abbrev pub invariant-loop-ty : goal.invariant-loop-ty
invariant-loop-ty l = list_any (λ t. not (is_int t)) (map type_of l.types) ≡ list_any (λ t. not (is_int t)) (map type_of (drop l.ty-index l.types))
