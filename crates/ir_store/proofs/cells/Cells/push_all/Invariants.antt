use Rattle.std.proofs.Common.{◌≡◌, ◌+◌, ◌++◌, take, replicate}
use Rattle.ir_store.specs.Blocks.{cell_room}
use Rattle.ir_store.proofs.cells.Cells.push_all.Given as goal

abbrev pub invariant-loop-value : goal.invariant-loop-value
invariant-loop-value l =
    (l.self.values.items ≡ l.fn.self.values.items ++ take l.value-index l.list)
    × ((l.self.owners.items ≡ l.fn.self.owners.items ++ replicate l.value-index l.owner) × (cell_room l.self + l.value-index ≡ cell_room l.fn.self))
