use Rattle.std.proofs.Common.{◌≤◌, length, drop}
use Rattle.gates.specs.Circuits.{Runs}
use Rattle.gate_words.specs.GateLists.{carried}
use Rattle.gate_words.proofs.sums.carry_out.Given as goal

abbrev pub invariant-loop-i : goal.invariant-loop-i
invariant-loop-i l = record {
  within : l.i ≤ length l.xs;
  runs : Runs (carried (drop l.i l.xs) (drop l.i l.ys) l.fn.carry) l.initial.gates l.gates l.over;
}

abbrev pub decreases-loop-i : goal.decreases-loop-i
decreases-loop-i l = l.i
