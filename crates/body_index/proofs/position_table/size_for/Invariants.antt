use Rattle.std.proofs.Common.{◌≡◌, ℕ, ◌<◌, slice_get, Some}
use Rattle.body_index.proofs.PositionTables.{indices}
use Rattle.body_index.proofs.position_table.size_for.Given as goal

abbrev pub invariant-loop-id : goal.invariant-loop-id
invariant-loop-id l = (j q : ℕ) → j < l.id-index → slice_get (indices l.ids) j ≡ Some q → q < l.size
