use Rattle.std.proofs.Common.{◌≡◌, take}
use Rattle.std.specs.List.{filter}
use Rattle.graphs.specs.Graphs.{has_mark}
use Rattle.module_sums.proofs.below.marked_nodes.Given as goal

abbrev pub invariant-loop-node : goal.invariant-loop-node
invariant-loop-node l = l.kept.items ≡ filter (has_mark l.marks) (take l.node-index l.nodes)
