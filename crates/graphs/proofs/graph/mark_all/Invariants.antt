use Rattle.std.proofs.Common.{take}
use Rattle.graphs.specs.Marks.{MarksAll}
use Rattle.graphs.proofs.graph.mark_all.Given as goal

abbrev pub invariant-loop-node : goal.invariant-loop-node
invariant-loop-node l = MarksAll (take l.node-index l.nodes) l.fn.marks l.marks l.fn.waiting.items l.waiting.items
