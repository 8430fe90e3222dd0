use Rattle.std.proofs.Common.{◌≡◌, ℕ, true, length, take, slice_get}
use Rattle.wiring.specs.Wiring.{In}
use Rattle.ir_store.specs.Designs.{design_of, modules_of}
use Rattle.graphs.specs.Graphs.{has_mark}
use Rattle.design_cycles.specs.Nodes.{bit_sets_of}
use Rattle.design_cycles.specs.Summing.{IsSummed}
use Rattle.design_cycles.proofs.summaries.summaries_of.Given as goal

abbrev pub invariant-loop-number : goal.invariant-loop-number
invariant-loop-number l =
    (length l.summaries.items ≡ length (modules_of l.design))
    × ((v : ℕ) → In v (take l.number-index l.order) → has_mark l.called v ≡ true → IsSummed (design_of l.design) (bit_sets_of (slice_get l.summaries.items v)) v)
