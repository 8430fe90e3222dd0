use Rattle.std.proofs.Common.{take}
use Rattle.ir_store.specs.Designs.{design_of}
use Rattle.graphs.specs.Graphs.{lists_of}
use Rattle.port_checks.specs.Pairs.{AddsPairs}
use Rattle.port_checks.specs.Joins.{pairs_in, made_from}
use Rattle.port_checks.proofs.joins.push_joins.Given as goal

abbrev pub invariant-loop-number : goal.invariant-loop-number
invariant-loop-number l =
    AddsPairs (made_from (pairs_in (design_of l.design) l.starts) 0 (take l.number (design_of l.design))) (lists_of l.fn.joined.items) (lists_of l.joined.items)
