use Rattle.std.proofs.Common.{◌≡◌, ◌+◌, ◌*◌, ◌≤◌, ◌++◌, length}
use Rattle.aiger_text.specs.Places.{ends_from, place_behind, latch_lists}
use Rattle.aiger_text.proofs.places.add_latch_ends.Given as goal

abbrev pub invariant-loop-latch : goal.invariant-loop-latch
invariant-loop-latch l = record {
  ends : l.ends.items ++ ends_from l.place (latch_lists l.rest) ≡ l.fn.ends.items ++ ends_from l.fn.first (latch_lists l.latches);
  behind : place_behind l.place (latch_lists l.rest) ≡ place_behind l.fn.first (latch_lists l.latches);
  low : l.place + 2 * length l.rest ≤ l.fn.first + 2 * length l.latches;
}

abbrev pub decreases-loop-latch : goal.decreases-loop-latch
decreases-loop-latch l = length l.rest
