use Rattle.std.proofs.Common.{◌+◌, length}
use Rattle.graphs.specs.Marks.{open_count}
use Rattle.graphs.proofs.Marking.{IsSearching}
use Rattle.aiger_reader.specs.Searched.{lists_in}
use Rattle.aiger_reader.proofs.cycles.reached_from.Given as goal

abbrev pub invariant-loop-place : goal.invariant-loop-place
invariant-loop-place l = IsSearching (lists_in l.needs) l.starts l.marks.items l.waiting.items

abbrev pub decreases-loop-place : goal.decreases-loop-place
decreases-loop-place l = open_count l.marks.items + length l.waiting.items
