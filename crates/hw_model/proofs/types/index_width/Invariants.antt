use Rattle.std.proofs.Common.{◌-◌, ℕ, ◌^◌, ◌≤◌}
use Rattle.hw_model.proofs.types.index_width.Given as goal

abbrev pub invariant-loop-width : goal.invariant-loop-width
invariant-loop-width l = (1 ≤ l.width) × (l.width ≤ 32) × ((j : ℕ) → 1 ≤ j → l.length ≤ 2 ^ j → l.width ≤ j)

abbrev pub decreases-loop-width : goal.decreases-loop-width
decreases-loop-width l = 32 - l.width
