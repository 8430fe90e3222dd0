use Rattle.design_cycles.proofs.Capped.{literals_more, literals_all}
use Rattle.design_cycles.proofs.weights.+literal_leaves.Goals as goal

pub literals_leaves-loop-literal-preserved : goal.literals_leaves-loop-literal-preserved
literals_leaves-loop-literal-preserved t c =
    literals_more c.deref-literal-items.result.now c.loop-literal.literal-index c.literal-item.result c.loop-literal.sum c.literal_leaves.result c.saturating_add-sum.result 18446744073709551615
    c.loop-literal-test.true c.literal-item.is c.loop-literal.invariant c.literal_leaves.ensures c.saturating_add-sum.ensures

pub literals_leaves-returns : goal.literals_leaves-returns
literals_leaves-returns t c =
    literals_all 18446744073709551615 c.args.list.now c.deref-literal-items.result.now c.loop-literal.literal-index c.loop-literal.sum
    c.deref-literal-items.ensures.value c.loop-literal-test.false c.loop-literal.invariant
