use Rattle.std.proofs.Common.{◌≡◌, map, take}
use Rattle.ir_store.specs.Designs.{port_of}
use Rattle.design_cycles.specs.Summing.{inputs_from}
use Rattle.design_cycles.proofs.summaries.input_ports.Given as goal

abbrev pub invariant-loop-position : goal.invariant-loop-position
invariant-loop-position l = l.inputs.items ≡ inputs_from 0 (map port_of (take l.position l.ports))
