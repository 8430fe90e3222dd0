use Rattle.std.proofs.Common.{◌≡◌, ◌++◌, drop, map}
use Rattle.ir_store.specs.Designs.{port_of, ports_in}
use Rattle.flat_module_gates.specs.FlatGateLists.{words_over}
use Rattle.flat_module_gates.proofs.ports.words_over.Given as goal

abbrev pub invariant-loop-port : goal.invariant-loop-port
invariant-loop-port l = l.words.items ++ words_over l.inputs l.start (map port_of (drop l.port-index l.port-items)) ≡ words_over l.inputs 0 (ports_in l.ports)
