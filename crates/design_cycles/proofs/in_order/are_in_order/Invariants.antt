use Rattle.std.proofs.Common.{ℕ, ◌<◌}
use Rattle.ir_store.specs.Bodies.{ops_of}
use Rattle.ir_store.specs.Numbered.{ops_by_position}
use Rattle.design_cycles.specs.InOrder.{StandsAfter}
use Rattle.design_cycles.proofs.in_order.are_in_order.Given as goal

abbrev pub invariant-loop-position : goal.invariant-loop-position
invariant-loop-position l = (j : ℕ) → j < l.position → StandsAfter (ops_by_position (ops_of l.body)) j
