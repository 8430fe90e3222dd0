use Rattle.std.proofs.Common.{◌≡◌, length}
use Rattle.std.specs.Prelude.{IfSome, Contains}
use Rattle.ir_store.specs.ChainedValues.{cells_of, rest_at}
use Rattle.ir_store.specs.Uses.{live_cells}
use Rattle.ir_store.proofs.operands.OperandTable.seek_use.Given as goal

abbrev pub invariant-loop-at : goal.invariant-loop-at
invariant-loop-at l =
    (IfSome l.at (λ d. Contains (cells_of l.value l.self.cells) d))
    × (live_cells l.links l.self.owners l.self.blocks (rest_at l.fn.from (cells_of l.value l.self.cells)) ≡ live_cells l.links l.self.owners l.self.blocks (rest_at l.at (cells_of l.value l.self.cells)))

abbrev pub decreases-loop-at : goal.decreases-loop-at
decreases-loop-at l = length (rest_at l.at (cells_of l.value l.self.cells))
