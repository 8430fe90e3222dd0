-- The names of bits in code.
use Rattle.aiger_circuits.specs.CircuitTexts.{Symbols}
use Rattle.aiger_export.specs.declared.bit_names.BitSymbols.{BitSymbols}

-- the names that code has
abbrev pub symbols_in : BitSymbols → Symbols
symbols_in s = record { inputs = s.inputs.items; latches = s.latches.items; outputs = s.outputs.items }
