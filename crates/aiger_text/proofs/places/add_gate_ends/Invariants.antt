use Rattle.std.proofs.Common.{◌≡◌, ◌+◌, ◌*◌, ◌≤◌, ◌++◌, length}
use Rattle.aiger_text.specs.Places.{ends_from, gate_lists}
use Rattle.aiger_text.proofs.places.add_gate_ends.Given as goal

abbrev pub invariant-loop-gate : goal.invariant-loop-gate
invariant-loop-gate l = record {
  ends : l.ends.items ++ ends_from l.place (gate_lists l.rest) ≡ l.fn.ends.items ++ ends_from l.fn.first (gate_lists l.gates);
  low : l.place + 3 * length l.rest ≤ l.fn.first + 3 * length l.gates;
}

abbrev pub decreases-loop-gate : goal.decreases-loop-gate
decreases-loop-gate l = length l.rest
