use Rattle.std.proofs.Common.{◌≡◌, ◌+◌, length}
use Rattle.ir_store.proofs.chained_values.ChainedValues.clear.Given as goal

abbrev pub invariant-loop : goal.invariant-loop
invariant-loop l = (length l.self.items + l.counter ≡ length l.fn.self.items) × (l.self.room ≡ l.fn.self.room + l.counter)
