use Rattle.std.proofs.Common.{◌≡◌, ◌++◌, map, drop}
use Rattle.ir_store.specs.Designs.{port_of, ports_in}
use Rattle.inline_pass.specs.MovedOps.{joined_values}
use Rattle.inline_pass.proofs.moved_ops.values_joined.Given as goal

abbrev pub invariant-loop-port : goal.invariant-loop-port
invariant-loop-port l = l.joined.items ++ joined_values (map port_of (drop l.port-index l.port-items)) l.rest ≡ joined_values (ports_in l.ports) l.operands
