use Rattle.std.proofs.Common.{◌*◌, map, ap, ◌∙◌, ◌≡◌, min}
use Rattle.hw_model.specs.TypeViews.{type_of}
use Rattle.hw_model.specs.Value.{nth_type}
use Rattle.hw_model.specs.Weight.{element_count, element_leaves}
use Rattle.design_cycles.specs.Sizes.{length_of, leaves_of}
use Rattle.design_cycles.proofs.Capped.{capped_injection, length_written, leaves_written}
use Rattle.design_cycles.proofs.weights.injection.Goals as goal

pub returns : goal.returns
returns c =
    let ts = map type_of c.args.types.now in
    let length_is : c.array_length-length.result ≡ element_count (nth_type ts 0) = c.array_length-length.ensures ∙ ap length_of c.type_at.ensures ∙ length_written ts 0 in
    let leaves_is : c.element_leaf_count.result ≡ min (element_leaves (nth_type ts 0)) 18446744073709551615 =
    c.element_leaf_count.ensures ∙ ap (λ o. min (leaves_of o) 18446744073709551615) c.type_at-2.ensures ∙ ap (λ n. min n 18446744073709551615) (leaves_written ts 0) in
    capped_injection (element_count (nth_type ts 0)) (element_leaves (nth_type ts 0)) c.element_leaf_count.result c.saturating_mul-parts.result c.saturating_mul.result c.saturating_mul-2.result
    c.saturating_add.result 18446744073709551615 leaves_is
    (c.saturating_mul-parts.ensures ∙ ap (λ n. min (n * c.element_leaf_count.result) 18446744073709551615) length_is)
    (c.saturating_mul.ensures ∙ ap (λ n. min (n * 4) 18446744073709551615) length_is) c.saturating_mul-2.ensures c.saturating_add.ensures
