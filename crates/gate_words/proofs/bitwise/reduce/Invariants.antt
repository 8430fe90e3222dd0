use Rattle.std.proofs.Common.{◌≤◌, length, drop}
use Rattle.gates.specs.Circuits.{Runs}
use Rattle.gate_words.specs.GateLists.{reduced}
use Rattle.gate_words.specs.Bitwise.{building_of}
use Rattle.gate_words.proofs.bitwise.reduce.Given as goal

abbrev pub invariant-loop-i : goal.invariant-loop-i
invariant-loop-i l = record {
  within : l.i ≤ length l.xs;
  runs : Runs (reduced (building_of l.bitwise) (drop l.i l.xs)) l.initial.gates l.gates l.so_far;
}

abbrev pub decreases-loop-i : goal.decreases-loop-i
decreases-loop-i l = l.i
