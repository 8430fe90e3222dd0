use Rattle.std.proofs.Common.{◌≡◌, ◌++◌, map, drop}
use Rattle.ir_store.specs.Designs.{port_of}
use Rattle.miter_blast.specs.Leaves.{input_widths}
use Rattle.miter_blast.proofs.widths.input_widths.Given as goal

abbrev pub invariant-loop-port : goal.invariant-loop-port
invariant-loop-port l = input_widths (map port_of l.port-items) ≡ l.widths.items ++ input_widths (map port_of (drop l.port-index l.port-items))
