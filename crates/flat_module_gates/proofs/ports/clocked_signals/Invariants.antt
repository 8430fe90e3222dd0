use Rattle.std.proofs.Common.{◌≡◌, ◌++◌, drop, map}
use Rattle.ir_store.specs.Designs.{port_of, ports_in}
use Rattle.net_gates.specs.ClockedInputs.{clocked_signals}
use Rattle.flat_module_gates.proofs.ports.clocked_signals.Given as goal

abbrev pub invariant-loop-port : goal.invariant-loop-port
invariant-loop-port l = l.signals.items ++ clocked_signals l.start (map port_of (drop l.port-index l.port-items)) ≡ clocked_signals 0 (ports_in l.ports)
