use Rattle.std.proofs.Common.{◌≡◌, min, take, map}
use Rattle.hw_model.specs.KindViews.{literal_of, literals_of}
use Rattle.hw_model.specs.Weight.{literals_leaves}
use Rattle.design_cycles.proofs.weights.+literal_leaves.Given as goal

abbrev pub invariant-literals_leaves-loop-literal : goal.invariant-literals_leaves-loop-literal
invariant-literals_leaves-loop-literal l =
    l.sum ≡ min (literals_leaves (literals_of (map literal_of (take l.literal-index l.literal-items)))) 18446744073709551615
