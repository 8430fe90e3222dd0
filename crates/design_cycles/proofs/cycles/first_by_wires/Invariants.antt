use Rattle.std.proofs.Common.{ℕ, ◌<◌}
use Rattle.ir_store.specs.Designs.{design_of}
use Rattle.design_cycles.specs.Asked.{IsCyclicAt}
use Rattle.design_cycles.proofs.cycles.first_by_wires.Given as goal

abbrev pub invariant-loop-position : goal.invariant-loop-position
invariant-loop-position l = (j : ℕ) → j < l.position → IsCyclicAt (design_of l.design) l.number j → ⊥
