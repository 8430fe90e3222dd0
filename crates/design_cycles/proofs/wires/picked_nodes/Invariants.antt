use Rattle.std.proofs.Common.{◌≡◌, take}
use Rattle.design_cycles.specs.Nodes.{picked_values}
use Rattle.design_cycles.proofs.wires.picked_nodes.Given as goal

abbrev pub invariant-loop-number : goal.invariant-loop-number
invariant-loop-number l = l.nodes.items ≡ picked_values l.layout l.operands (take l.number-index l.numbers)
