-- The uses that an iterator has left.
use Rattle.std.specs.Prelude.{ℕ, List}
use Rattle.ir_store.specs.declared.operation.UsePosition.{UsePosition}
use Rattle.ir_store.specs.declared.uses.Uses.{Uses}
use Rattle.ir_store.specs.ChainedValues.{cells_of, rest_at}
use Rattle.ir_store.specs.Uses.{positions_of}

-- the cells that an iterator has left
abbrev pub cells_left : Uses → List ℕ
cells_left s = rest_at s.at (cells_of s.value s.operands.now.cells)

-- the positions that an iterator has left
abbrev pub uses_left : Uses → List UsePosition
uses_left s = positions_of s.links.now s.operands.now.owners s.operands.now.blocks (cells_left s)
