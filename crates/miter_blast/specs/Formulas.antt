-- The formula of a signal of a circuit (Tseitin, 1968).
use Rattle.std.specs.Prelude.{◌+◌, ◌++◌, length}
use Rattle.resolution_proof.specs.Formula.{Formula}
use Rattle.gates.specs.declared.signal.Signal.{Signal}
use Rattle.gates.specs.Circuits.{Circuit}
use Rattle.gates.specs.Clauses.{clauses_from}
use Rattle.net_gates.specs.Miters.{signal_clauses}

-- each gate's variable has the gate's bit, and the signal is 1
abbrev pub circuit_formula : Circuit → Signal → Formula
circuit_formula c s = record {
  variables = c.inputs + length c.gates;
  clauses = clauses_from c.inputs c.gates ++ signal_clauses s;
}
