use Rattle.std.proofs.Common.{◌≡◌, ◌≤◌, length, drop}
use Rattle.gates.specs.Circuits.{Runs}
use Rattle.gate_words.specs.GateLists.{each}
use Rattle.gate_words.specs.Bitwise.{building_of}
use Rattle.gate_words.proofs.bitwise.each.Given as goal

abbrev pub invariant-loop-i : goal.invariant-loop-i
invariant-loop-i l = record {
  within : l.i ≤ length l.xs;
  room : length l.made.items ≡ length l.xs;
  runs : Runs (each (building_of l.bitwise) (drop l.i l.xs) (drop l.i l.ys)) l.initial.gates l.gates (drop l.i l.made.items);
}

abbrev pub decreases-loop-i : goal.decreases-loop-i
decreases-loop-i l = l.i
