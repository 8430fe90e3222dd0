-- Headers, latches and gates as the code has them.
use Rattle.std.specs.Prelude.{ℕ}
use Rattle.aiger_laws.specs.declared.tree.Latch.{Latch}
use Rattle.aiger_laws.specs.declared.tree.AndGate.{AndGate}
use Rattle.aiger_laws.specs.Rows as rows
use Rattle.aiger_reader.specs.declared.header.Header.{Header}

-- the header
abbrev pub header_in : Header → rows.Header
header_in h = record { most = h.most; inputs = h.inputs; latches = h.latches; outputs = h.outputs; gates = h.gates }

-- the latch of two numbers
abbrev pub latch_in : ℕ × ℕ → Latch
latch_in p = record { literal = p.0; next = p.1 }

-- the gate of three numbers
abbrev pub gate_in : (ℕ × ℕ) × ℕ → AndGate
gate_in p = record { literal = p.0.0; left = p.0.1; right = p.1 }
