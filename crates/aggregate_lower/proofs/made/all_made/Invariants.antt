use Rattle.ir_store.specs.Bodies.{ops_of}
use Rattle.ir_store.specs.Designs.{design_of}
use Rattle.aggregate_lower.proofs.MadeParts.{SoFar}
use Rattle.aggregate_lower.proofs.made.all_made.Given as goal

abbrev pub invariant-loop-position : goal.invariant-loop-position
invariant-loop-position l = SoFar (design_of l.callees.design.now) l.table (ops_of l.body) l.table.starts.items l.position l.made
