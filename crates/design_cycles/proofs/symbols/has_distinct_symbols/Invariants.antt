use Rattle.std.proofs.Common.{ℕ, ◌<◌}
use Rattle.ir_store.specs.Designs.{modules_of}
use Rattle.design_cycles.specs.Calls.{IsFoundAt}
use Rattle.design_cycles.proofs.symbols.has_distinct_symbols.Given as goal

abbrev pub invariant-loop-number : goal.invariant-loop-number
invariant-loop-number l = (i : ℕ) → i < l.number → IsFoundAt (modules_of l.design) i
