use Rattle.std.proofs.Common.{◌+◌, length}
use Rattle.graphs.specs.Graphs.{lists_of}
use Rattle.graphs.specs.Marks.{open_count}
use Rattle.graphs.proofs.Marking.{IsSearching}
use Rattle.graphs.proofs.graph.reached_from.Given as goal

abbrev pub invariant-loop-node : goal.invariant-loop-node
invariant-loop-node l = IsSearching (lists_of l.graph) l.starts l.marks.items l.waiting.items

abbrev pub decreases-loop-node : goal.decreases-loop-node
decreases-loop-node l = open_count l.marks.items + length l.waiting.items
