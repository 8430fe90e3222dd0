use Rattle.std.proofs.Common.{◌≡◌, ◌++◌, drop, map}
use Rattle.ir_store.specs.Designs.{port_of, ports_in}
use Rattle.flat_module_gates.specs.FlatGateLists.{port_words}
use Rattle.flat_module_gates.proofs.widths.port_words.Given as goal

abbrev pub invariant-loop-port : goal.invariant-loop-port
invariant-loop-port l = l.words.items ++ port_words l.start (map port_of (drop l.port-index l.port-items)) ≡ port_words 0 (ports_in l.ports)
