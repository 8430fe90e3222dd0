-- The uses of a value in a body, one after another.
use Rattle.std.specs.Prelude.{◌≡◌, ℕ, true, List, [], ◌∷◌, Option, Some, None, map, is_some, option_map, slice_index_or, Contains}
use Rattle.ir_store.specs.declared.body.Body.{Body}
use Rattle.ir_store.specs.declared.operation.UseId.{UseId}
use Rattle.ir_store.specs.declared.operation.UsePosition.{UsePosition}
use Rattle.ir_store.specs.declared.operation.Value.{Value}
use Rattle.ir_store.specs.declared.operation.Value.TheVariants.{Undefined}
use Rattle.ir_store.specs.ChainedValues.{cells_of, rest_at}
use Rattle.ir_store.specs.Uses.{use_of, live_cells}

-- the value that is used
abbrev pub used_value : UseId → Body → Value
used_value u b = slice_index_or b.operands.cells.items u.cell Undefined

-- the position of a use, where it is an operand
abbrev pub use_position : UseId → Body → Option UsePosition
use_position u b = use_of b.order.links.items b.operands.owners b.operands.blocks u.cell

-- a use of a cell
abbrev pub use_id : ℕ → UseId
use_id c = record { cell = c }

-- the uses of a value, in the order of its chain
abbrev pub use_chain : Value → Body → List UseId
use_chain v b = map use_id (live_cells b.order.links.items b.operands.owners b.operands.blocks (cells_of v b.operands.cells))

-- those from one on; from none on there are none
abbrev pub use_left : Value → Option UseId → Body → List UseId
use_left v at b = map use_id (live_cells b.order.links.items b.operands.owners b.operands.blocks (rest_at (option_map (λ (u : UseId). u.cell) at) (cells_of v b.operands.cells)))

-- the first of some uses
abbrev pub first_use_of : List UseId → Option UseId
first_use_of [] = None
first_use_of (u ∷ uses) = Some u

-- a use of a body as it is
pub record IsUse (u : UseId) (b : Body) : Type 0 where
  pub there : Contains (cells_of (used_value u b) b.operands.cells) u.cell
  pub live : is_some (use_position u b) ≡ true
