-- The names of bits in code.
use Rattle.aiger_circuits.specs.CircuitTexts.{Symbols}
use Rattle.aiger_circuits.specs.declared.write.BitNames.{BitNames}

abbrev pub symbols_of : BitNames → Symbols
symbols_of names = record { inputs = names.inputs.now; latches = names.latches.now; outputs = names.outputs.now }
