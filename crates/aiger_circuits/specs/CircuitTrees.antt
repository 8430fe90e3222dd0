-- The tree of a circuit: its inputs, its latches and its gates, numbered one after another (AIGER 1.9).
use Rattle.std.specs.Prelude.{ℕ, zero, suc, ◌+◌, ◌*◌, true, false, cond, List, [], ◌∷◌, map, length}
use Rattle.gates.specs.declared.signal.Pin.{Pin}
use Rattle.gates.specs.declared.signal.Gate.{Gate}
use Rattle.gates.specs.declared.signal.Signal.{Signal}
use Rattle.gates.specs.declared.signal.Signal.TheVariants.{Fixed, Wire}
use Rattle.aiger_laws.specs.declared.tree.Latch.{Latch}
use Rattle.aiger_laws.specs.declared.tree.AndGate.{AndGate}
use Rattle.aiger_laws.specs.Trees.{Aiger}

-- the literal of a pin
abbrev pub pin_literal : Pin → ℕ
pin_literal p = 2 * p.variable + cond p.positive 0 1

-- the literal of a signal
abbrev pub signal_literal : Signal → ℕ
signal_literal (Fixed b) = cond b 1 0
signal_literal (Wire p) = pin_literal p

-- the literals of so many variables from one on
abbrev pub literals_from : ℕ → ℕ → List ℕ
literals_from v zero = []
literals_from v (suc n) = 2 * v ∷ literals_from (suc v) n

-- the latches of variables from one on, of which each takes the bit of its signal
abbrev pub latches_from : ℕ → List Signal → List Latch
latches_from v [] = []
latches_from v (s ∷ ss) = record { literal = 2 * v; next = signal_literal s } ∷ latches_from (suc v) ss

-- a gate of that variable; the pin of the greater variable comes first
abbrev pub and_gate : ℕ → Gate → AndGate
and_gate v g = record { literal = 2 * v; left = pin_literal g.second; right = pin_literal g.first }

-- the gates of variables from one on
abbrev pub gates_from : ℕ → List Gate → List AndGate
gates_from v [] = []
gates_from v (g ∷ gs) = and_gate v g ∷ gates_from (suc v) gs

-- the tree of a circuit with so many inputs, with the signals of its outputs and of what its latches take, and with gates
unfoldable pub circuit_tree : ℕ → List Signal → List Signal → List Gate → Aiger
circuit_tree inputs outputs nexts gates = record {
  inputs = literals_from 1 inputs;
  latches = latches_from (suc inputs) nexts;
  outputs = map signal_literal outputs;
  gates = gates_from (suc (inputs + length nexts)) gates;
}
