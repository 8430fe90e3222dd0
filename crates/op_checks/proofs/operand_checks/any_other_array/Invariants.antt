use Rattle.std.proofs.Common.{◌≡◌, map, drop}
use Rattle.std.specs.List.{list_any}
use Rattle.std.specs.Option.{option_map}
use Rattle.hw_model.specs.TypeViews.{type_of}
use Rattle.op_checks.specs.OperandChecks.{is_no_array_of}
use Rattle.op_checks.proofs.operand_checks.any_other_array.Given as goal

abbrev pub invariant-loop-ty : goal.invariant-loop-ty
invariant-loop-ty l = list_any (is_no_array_of (option_map (λ t. type_of t.now) l.fn.element)) (map type_of l.types) ≡ list_any (is_no_array_of (option_map (λ t. type_of t.now) l.fn.element)) (map type_of (drop l.ty-index l.types))
