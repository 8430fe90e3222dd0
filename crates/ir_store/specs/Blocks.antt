-- Lists of operands that lie in blocks of cells.
use Rattle.std.specs.Prelude.{◌≡◌, ℕ, ◌+◌, ◌-◌, ◌<◌, ◌≤◌, ◌&&◌, cond, nat_le, nat_lt, List, [], ◌∷◌, Option, Some, None, length, map, min, take, drop, slice_index_or}
use Rattle.std.specs.Vec.{vec_capacity}
use Rattle.ir_store.specs.declared.cells.Cells.{Cells}
use Rattle.ir_store.specs.declared.blocks.Block.{Block}
use Rattle.ir_store.specs.declared.operation.Value.{Value}
use Rattle.ir_store.specs.declared.operation.UsePosition.{UsePosition}
use Rattle.linked_lists.specs.Links.{none}
use Rattle.ir_store.specs.ChainedValues.{ValueChains}

-- for how many more cells there is room
abbrev pub cell_room : Cells → ℕ
cell_room c = min c.values.room (vec_capacity c.owners - length c.owners.items)

-- the block of a list that is not there
abbrev pub no_block : Block
no_block = record { start = 0; len = 0 }

-- the block of a list
abbrev pub block_at : List Block → ℕ → Block
block_at blocks i = slice_index_or blocks i no_block

-- the values of the cells of a block
abbrev pub block_list : List Value → Block → List Value
block_list cells b = take b.len (drop b.start cells)

-- the lists of all blocks
abbrev pub lists_in : List Value → List Block → List (List Value)
lists_in cells blocks = map (block_list cells) blocks

-- how many cells the blocks have
abbrev pub total : List Block → ℕ
total [] = 0
total (b ∷ blocks) = b.len + total blocks

-- each block lies within the cells, each of its cells was put in for it, and the blocks have so many cells
pub record AreBlocks (cells : List Value) (owners : List ℕ) (blocks : List Block) (live : ℕ) : Type 0 where
  pub within : (i : ℕ) → (block_at blocks i).start + (block_at blocks i).len ≤ length cells
  pub own : (i k : ℕ) → k < (block_at blocks i).len → slice_index_or owners ((block_at blocks i).start + k) none ≡ i
  pub count : live ≡ total blocks
  pub fits : live ≤ length cells

-- the lists of operands, for how many more lists and operands there is room, and how they lie in cells
pub record OperandLists : Type 0 where
  pub lists : List (List Value)
  pub list_room : ℕ
  pub room : ℕ
  pub tail : ℕ
  pub cells : ValueChains
  pub owners : List ℕ
  pub blocks : List Block
  pub spare : List Value

-- the position of a cell in its block, where it is one of a block's cells
abbrev pub position_within : ℕ → Block → ℕ → Option UsePosition
position_within i b cell = cond (nat_le b.start cell && nat_lt (cell - b.start) b.len) (Some (record { op = record { index = i }; at = cell - b.start })) None

-- the position of a cell in the list that has it, if one has it
abbrev pub position_in : List ℕ → List Block → ℕ → Option UsePosition
position_in owners blocks cell = position_within (slice_index_or owners cell none) (block_at blocks (slice_index_or owners cell none)) cell
