use Rattle.std.proofs.Common.{◌≡◌, ◌+◌, ◌<◌, ◌≤◌, ℕ, length, get_or}
use Rattle.ir_store.specs.declared.operation.Value.TheVariants.{Undefined}
use Rattle.ir_store.proofs.cells.Cells.close_gap.Given as goal

abbrev pub invariant-loop-cell : goal.invariant-loop-cell
invariant-loop-cell l =
    (length l.self.values.items ≡ length l.fn.self.values.items)
    × (((d : ℕ) → (l.first ≤ d → d < l.cell → ⊥) → get_or l.self.values.items d Undefined ≡ get_or l.fn.self.values.items d Undefined)
    × (((d : ℕ) → l.first ≤ d → d < l.cell → get_or l.self.values.items d Undefined ≡ get_or l.fn.self.values.items (d + 1) Undefined)
    × ((l.self.owners ≡ l.fn.self.owners) × (l.self.values.room ≡ l.fn.self.values.room))))
