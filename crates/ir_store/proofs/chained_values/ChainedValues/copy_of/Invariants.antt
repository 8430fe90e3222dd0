use Rattle.std.proofs.Common.{◌≡◌, ◌≤◌, ◌+◌, take}
use Rattle.ir_store.proofs.chained_values.ChainedValues.copy_of.Given as goal

abbrev pub invariant-loop-value : goal.invariant-loop-value
invariant-loop-value l = (l.copy.items ≡ take l.value-index l.values) × (l.room ≤ l.copy.room + l.value-index)
