use Rattle.std.proofs.Common.{ℕ, ◌<◌}
use Rattle.ir_store.specs.Designs.{design_of}
use Rattle.design_cycles.specs.Asked.{IsRecursiveAt}
use Rattle.design_cycles.proofs.recursion.first_recursive.Given as goal

abbrev pub invariant-loop-module : goal.invariant-loop-module
invariant-loop-module l = (i : ℕ) → i < l.module → (j : ℕ) → IsRecursiveAt (design_of l.design) i j → ⊥
