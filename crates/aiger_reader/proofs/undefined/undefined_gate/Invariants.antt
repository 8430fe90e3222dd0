use Rattle.std.proofs.Common.{◌≡◌, ◌+◌, ◌<◌, ◌^◌, ◌||◌, length}
use Rattle.aiger_laws.specs.declared.tree.Latch.{Latch}
use Rattle.aiger_laws.specs.declared.tree.AndGate.{AndGate}
use Rattle.aiger_laws.specs.Grammar.{first_from}
use Rattle.aiger_reader.specs.Kept.{drivers_of}
use Rattle.aiger_reader.specs.Searched.{lacks}
use Rattle.aiger_reader.proofs.undefined.undefined_gate.Given as goal

abbrev pub invariant-loop-gate : goal.invariant-loop-gate
invariant-loop-gate l = record {
  left : first_from (λ (x : AndGate). lacks (drivers_of l.drivers) x.left || lacks (drivers_of l.drivers) x.right) l.line l.rest ≡ first_from (λ (x : AndGate). lacks (drivers_of l.drivers) x.left || lacks (drivers_of l.drivers) x.right) l.fn.first l.gates;
  room : l.line + length l.rest < 2 ^ 32;
}

abbrev pub decreases-loop-gate : goal.decreases-loop-gate
decreases-loop-gate l = length l.rest
