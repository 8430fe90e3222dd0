use Rattle.std.proofs.Common.{ap₂, min, ◌∙◌}
use Rattle.hw_model.specs.KindViews.{kind_of}
use Rattle.operation_gates.specs.Prices.{price}
use Rattle.miter_blast.proofs.ResultPrices.{results_more}
use Rattle.miter_blast.proofs.prices.results_price.Goals as goal

pub loop-one-preserved : goal.loop-one-preserved
loop-one-preserved c = λ ns count first.
    results_more (kind_of c.args.kind.now) ns c.as_slice-one-items.result.now c.loop-one.one-index c.one-item.result c.loop-one.price c.gate_list_price.result c.saturating_add-price.result 18446744073709551615
    c.loop-one-test.true c.one-item.is (c.loop-one.invariant ns count first)
    (c.gate_list_price.ensures ns count first ∙ ap₂ (λ k w. min (price k w ns) 18446744073709551615) c.family.ensures (c.from.ensures ∙ c.in_ok-bits_of.ensures))
    c.saturating_add-price.ensures
