use Rattle.std.proofs.Common.{◌≡◌, ◌+◌, ◌<◌, ◌^◌, ◌||◌, length}
use Rattle.aiger_laws.specs.declared.tree.Latch.{Latch}
use Rattle.aiger_laws.specs.declared.tree.AndGate.{AndGate}
use Rattle.aiger_laws.specs.Grammar.{first_from}
use Rattle.aiger_reader.specs.Kept.{drivers_of}
use Rattle.aiger_reader.specs.Searched.{lacks}
use Rattle.aiger_reader.proofs.undefined.undefined_output.Given as goal

abbrev pub invariant-loop-output : goal.invariant-loop-output
invariant-loop-output l = record {
  left : first_from (lacks (drivers_of l.drivers)) l.line l.rest ≡ first_from (lacks (drivers_of l.drivers)) l.fn.first l.outputs;
  room : l.line + length l.rest < 2 ^ 32;
}

abbrev pub decreases-loop-output : goal.decreases-loop-output
decreases-loop-output l = length l.rest
