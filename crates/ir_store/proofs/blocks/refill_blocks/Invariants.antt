use Rattle.std.proofs.Common.{◌≡◌, ◌+◌, length}
use Rattle.ir_store.specs.Blocks.{cell_room}
use Rattle.ir_store.proofs.Refilling.{Refilled}
use Rattle.ir_store.proofs.blocks.refill_blocks.Given as goal

abbrev pub invariant-loop-i : goal.invariant-loop-i
invariant-loop-i l =
    Refilled l.from l.fn.blocks l.i l.cells.values.items l.cells.owners.items l.blocks
    × (cell_room l.cells + length l.cells.values.items ≡ cell_room l.fn.cells)
