use Rattle.std.proofs.Common.{◌≡◌, ◌-◌, ◌^◌, ◌<◌, ◌≤◌, length, drop}
use Rattle.gates.specs.Circuits.{Runs}
use Rattle.gate_words.specs.GateLists.{moved_from}
use Rattle.gate_words.specs.Directions.{move_of}
use Rattle.gate_words.proofs.shifts.moved_from.Given as goal

abbrev pub invariant-loop-i : goal.invariant-loop-i
invariant-loop-i l = record {
  within : l.i ≤ length l.amount;
  width : length l.word.items ≡ length l.xs;
  more : l.distance ≤ 2 ^ (length l.amount - l.i);
  same : l.distance < length l.xs → l.distance ≡ 2 ^ (length l.amount - l.i);
  runs : Runs (moved_from (move_of l.direction) l.xs (drop l.i l.amount)) l.initial.gates l.gates (record { word = l.word.items; is_out = l.is_out });
}

abbrev pub decreases-loop-i : goal.decreases-loop-i
decreases-loop-i l = l.i
