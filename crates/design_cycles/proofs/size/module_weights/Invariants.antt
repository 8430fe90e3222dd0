use Rattle.std.proofs.Common.{◌≡◌, ℕ, length, take}
use Rattle.wiring.specs.Wiring.{In}
use Rattle.ir_store.specs.Designs.{design_of, modules_of}
use Rattle.design_cycles.specs.Weighing.{Weighs}
use Rattle.design_cycles.proofs.size.module_weights.Given as goal

abbrev pub invariant-loop-number : goal.invariant-loop-number
invariant-loop-number l =
    (length l.weights.items ≡ length (modules_of l.design)) × ((v : ℕ) → In v (take l.number-index l.order) → Weighs (design_of l.design) l.weights.items 18446744073709551615 v)
