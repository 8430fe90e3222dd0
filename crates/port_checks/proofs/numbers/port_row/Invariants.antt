use Rattle.std.proofs.Common.{◌≡◌, [], take, replicate}
use Rattle.ir_store.specs.Designs.{design_of}
use Rattle.graphs.specs.Graphs.{lists_of}
use Rattle.port_checks.specs.ResetPorts.{port_count}
use Rattle.port_checks.proofs.Numbering.{HaveStarts}
use Rattle.port_checks.proofs.numbers.port_row.Given as goal

abbrev pub invariant-loop-number : goal.invariant-loop-number
invariant-loop-number l = record {
  starts : HaveStarts (design_of l.design) l.number l.starts.items;
  joined : lists_of l.joined.items ≡ replicate (port_count (take l.number (design_of l.design))) [];
}
