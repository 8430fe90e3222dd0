use Rattle.std.proofs.Common.{◌≡◌, map, drop}
use Rattle.std.specs.Prelude.{option_map}
use Rattle.std.specs.List.{list_any}
use Rattle.hw_model.specs.TypeViews.{type_of}
use Rattle.op_checks.specs.TypeChecks.{is_clock}
use Rattle.op_checks.specs.LimitChecks.{of_type}
use Rattle.op_checks.proofs.type_lists.any_settled_clock.Given as goal

abbrev pub invariant-loop-ty : goal.invariant-loop-ty
invariant-loop-ty l = list_any (of_type is_clock) (map (option_map (λ t. type_of t.now)) l.types) ≡ list_any (of_type is_clock) (map (option_map (λ t. type_of t.now)) (drop l.ty-index l.types))
