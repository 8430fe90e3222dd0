use Rattle.std.proofs.Common.{◌≡◌, length}
use Rattle.flat_steps.specs.Tables.{settled_results, TableFits}
use Rattle.flat_steps.specs.Plans.{body_of}
use Rattle.flat_steps.proofs.steps.settle.Given as goal

abbrev pub invariant-loop-position : goal.invariant-loop-position
invariant-loop-position l = record {
  fits : TableFits l.ports (body_of l.plan) l.left l.results.items;
  same : settled_results l.ports (body_of l.plan) l.left l.results.items ≡ settled_results l.ports (body_of l.plan) l.order l.fn.results.items;
}

abbrev pub decreases-loop-position : goal.decreases-loop-position
decreases-loop-position l = length l.left
