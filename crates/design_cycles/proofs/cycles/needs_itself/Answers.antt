use Rattle.design_cycles.proofs.Cyclic.{marks_need}
use Rattle.design_cycles.proofs.cycles.needs_itself.Goals as goal

pub returns : goal.returns
returns c =
    marks_need c.args.graph.now c.args.node c.index-graph-node.result c.as_slice.result.now c.in_ok-marks.marks.items c.index.result.now c.requires c.as_slice.ensures.value
    c.in_ok-marks.ensures c.index.ensures
