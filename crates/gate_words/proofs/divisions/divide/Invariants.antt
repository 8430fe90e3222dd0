use Rattle.std.proofs.Common.{◌≡◌, List, ◌++◌, length, drop}
use Rattle.gates.specs.declared.signal.Signal.{Signal}
use Rattle.gates.specs.Circuits.{Circuit, Runs}
use Rattle.gate_words.specs.GateLists.{divided, divided_from}
use Rattle.gate_words.proofs.divisions.divide.Given as goal

abbrev pub invariant-loop-x : goal.invariant-loop-x
invariant-loop-x l = record {
  width : length l.left.items ≡ length l.divisor;
  rest : (u : Circuit) (q r : List Signal) → Runs (divided_from l.left.items (drop l.x-index l.xs) l.divisor) l.gates u (record { quotient = q; rest = r })
      → Runs (divided l.xs l.divisor) l.initial.gates u (record { quotient = l.bits.items ++ q; rest = r });
}
