use Rattle.std.proofs.Common.{◌≡◌, ◌+◌, ◌<◌, ◌^◌, ◌||◌, length}
use Rattle.aiger_laws.specs.declared.tree.Latch.{Latch}
use Rattle.aiger_laws.specs.declared.tree.AndGate.{AndGate}
use Rattle.aiger_laws.specs.Grammar.{first_from}
use Rattle.aiger_reader.specs.Kept.{drivers_of}
use Rattle.aiger_reader.specs.Searched.{lacks}
use Rattle.aiger_reader.proofs.undefined.undefined_latch.Given as goal

abbrev pub invariant-loop-latch : goal.invariant-loop-latch
invariant-loop-latch l = record {
  left : first_from (λ (x : Latch). lacks (drivers_of l.drivers) x.next) l.line l.rest ≡ first_from (λ (x : Latch). lacks (drivers_of l.drivers) x.next) l.fn.first l.latches;
  room : l.line + length l.rest < 2 ^ 32;
}

abbrev pub decreases-loop-latch : goal.decreases-loop-latch
decreases-loop-latch l = length l.rest
