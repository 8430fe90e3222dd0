use Rattle.std.proofs.Common.{◌≡◌, ◌++◌}
use Rattle.hw_model.specs.TypeViews.{type_of}
use Rattle.hw_model.specs.Value.{injected_below}
use Rattle.operation_values.proofs.arrays.elements_with.Given as goal

abbrev pub invariant-loop-left : goal.invariant-loop-left
invariant-loop-left l =
    l.part ++ injected_below l.left (type_of l.ty) l.fn.word l.index l.value ≡ injected_below l.count (type_of l.ty) l.fn.word l.index l.value

abbrev pub decreases-loop-left : goal.decreases-loop-left
decreases-loop-left l = l.left
