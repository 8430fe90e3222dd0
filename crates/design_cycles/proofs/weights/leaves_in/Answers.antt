use Rattle.design_cycles.proofs.Capped.{leaves_more}
use Rattle.design_cycles.proofs.weights.leaves_in.Goals as goal

pub loop-ty-preserved : goal.loop-ty-preserved
loop-ty-preserved c =
    leaves_more c.args.types.now c.loop-ty.ty-index c.ty-item.result c.loop-ty.sum c.leaf_count.result c.saturating_add-sum.result 18446744073709551615
    c.loop-ty-test.true c.ty-item.is c.loop-ty.invariant c.leaf_count.ensures c.saturating_add-sum.ensures
