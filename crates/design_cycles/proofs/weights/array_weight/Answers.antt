use Rattle.std.proofs.Common.{map, ap, ◌∙◌, ◌≡◌, min, sym}
use Rattle.hw_model.specs.TypeViews.{type_of}
use Rattle.hw_model.specs.FamilyViews.{array_op_of}
use Rattle.hw_model.specs.Value.{nth_type}
use Rattle.hw_model.specs.Weight.{element_count, element_leaves, choice_weight, array_weight}
use Rattle.design_cycles.specs.Sizes.{length_of}
use Rattle.design_cycles.proofs.Capped.{length_written}
use Rattle.design_cycles.proofs.weights.array_weight.Goals as goal

pub returns-in-Slice : goal.returns-in-Slice
returns-in-Slice c =
    let ts = map type_of c.args.types.now in
    let length_is : c.array_length.result ≡ element_count (nth_type ts 1) = c.array_length.ensures ∙ ap length_of c.type_at.ensures ∙ length_written ts 1 in
    c.choice-in-Slice.ensures
    ∙ ap (λ n. min (choice_weight (element_count (nth_type ts 0)) (element_leaves (nth_type ts 0)) n) 18446744073709551615) length_is
    ∙ ap (λ k. min (array_weight (array_op_of k) ts c.args.operands) 18446744073709551615) (sym c.in-Slice.is)
