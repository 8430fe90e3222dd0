use Rattle.std.proofs.Common.{◌≡◌, take}
use Rattle.ir_store.specs.Designs.{design_of}
use Rattle.port_checks.specs.Joins.{named_in, made_from}
use Rattle.port_checks.proofs.named.named_ports.Given as goal

abbrev pub invariant-loop-number : goal.invariant-loop-number
invariant-loop-number l = l.named.items ≡ made_from named_in 0 (take l.number (design_of l.design))
