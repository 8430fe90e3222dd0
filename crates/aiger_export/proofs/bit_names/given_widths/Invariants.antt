use Rattle.std.proofs.Common.{◌≡◌, ◌++◌, map, drop}
use Rattle.ir_store.specs.Designs.{port_of}
use Rattle.aiger_export.specs.BitNames.{given_bits}
use Rattle.aiger_export.proofs.bit_names.given_widths.Given as goal

abbrev pub invariant-loop-port : goal.invariant-loop-port
invariant-loop-port l = l.widths.items ++ map given_bits (map port_of (drop l.port-index l.ports.ports.items)) ≡ map given_bits (map port_of l.ports.ports.items)
