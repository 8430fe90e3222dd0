use Rattle.std.proofs.Common.{◌≡◌, min, take, map}
use Rattle.hw_model.specs.TypeViews.{type_of}
use Rattle.hw_model.specs.Weight.{leaf_count}
use Rattle.design_cycles.proofs.weights.leaves_in.Given as goal

abbrev pub invariant-loop-ty : goal.invariant-loop-ty
invariant-loop-ty l = l.sum ≡ min (leaf_count (map type_of (take l.ty-index l.types))) 18446744073709551615
