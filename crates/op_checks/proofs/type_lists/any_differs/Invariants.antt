use Rattle.std.proofs.Common.{◌≡◌, map, drop}
use Rattle.std.specs.Option.{option_map}
use Rattle.hw_model.specs.TypeViews.{type_of}
use Rattle.op_checks.specs.TypeLists.{any_differs}
use Rattle.op_checks.proofs.type_lists.any_differs.Given as goal

abbrev pub invariant-loop-ty : goal.invariant-loop-ty
invariant-loop-ty l = any_differs (map (option_map (λ t. type_of t.now)) l.operands) (option_map (λ t. type_of t.now) l.fn.wanted)
    ≡ any_differs (map (option_map (λ t. type_of t.now)) (drop l.ty-index l.operands)) (option_map (λ t. type_of t.now) l.fn.wanted)
