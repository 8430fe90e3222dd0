use Rattle.std.proofs.Common.{◌≡◌, ◌+◌, ◌<◌, ◌^◌, length}
use Rattle.aiger_reader.specs.Searched.{are_falling}
use Rattle.aiger_reader.proofs.cycles.are_falling.Given as goal

abbrev pub invariant-loop-gate : goal.invariant-loop-gate
invariant-loop-gate l = record {
  left : are_falling l.ranks l.place l.rest ≡ are_falling l.ranks 0 l.needs;
  room : l.place + length l.rest < 2 ^ 31;
}

abbrev pub decreases-loop-gate : goal.decreases-loop-gate
decreases-loop-gate l = length l.rest
