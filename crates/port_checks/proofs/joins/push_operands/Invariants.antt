use Rattle.std.proofs.Common.{◌≡◌, map, take}
use Rattle.hw_model.specs.Flat.{input_count}
use Rattle.ir_store.specs.Designs.{port_of}
use Rattle.graphs.specs.Graphs.{lists_of}
use Rattle.port_checks.specs.Pairs.{AddsPairs}
use Rattle.port_checks.specs.Joins.{operand_pairs}
use Rattle.port_checks.specs.Seen.{ref_seen}
use Rattle.port_checks.proofs.joins.push_operands.Given as goal

abbrev pub invariant-loop-number : goal.invariant-loop-number
invariant-loop-number l = record {
  inputs : l.inputs ≡ input_count (take l.number (map port_of l.called.ports.now));
  pairs : AddsPairs (operand_pairs l.starts l.called.number (map port_of l.called.ports.now) l.caller.number (map port_of l.caller.ports.now) (map ref_seen l.operands) l.number)
      (lists_of l.fn.joined.items) (lists_of l.joined.items);
}
