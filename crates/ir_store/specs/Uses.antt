-- The positions where a value is used.
use Rattle.std.specs.Prelude.{◌≡◌, ℕ, suc, Bool, true, false, cond, ◌&&◌, nat_eq, List, [], ◌∷◌, ◌++◌, Option, Some, None, is_some, slice_get, slice_index_or, Contains}
use Rattle.linked_lists.specs.declared.links.Link.{Link}
use Rattle.ir_store.specs.declared.blocks.Block.{Block}
use Rattle.ir_store.specs.declared.operation.UsePosition.{UsePosition}
use Rattle.ir_store.specs.declared.operation.Value.{Value}
use Rattle.ir_store.specs.declared.operation.Value.TheVariants.{Undefined}
use Rattle.ir_store.specs.ChainedValues.{cells_of}
use Rattle.linked_lists.specs.Links.{is_live_at}
use Rattle.ir_store.specs.Blocks.{OperandLists, position_in}
use Rattle.ir_store.specs.BodyOps.{BodyOp, same_value, is_of, names_in}

-- an operand of an operation, by its id
abbrev pub use_at : ℕ → ℕ → UsePosition
use_at id at = record { op = record { index = id }; at = at }

-- the positions of a value among the operands of an operation from the position `at` on
abbrev pub positions_in : Value → ℕ → ℕ → List Value → List UsePosition
positions_in v id at [] = []
positions_in v id at (x ∷ xs) = cond (same_value v x) (use_at id at ∷ positions_in v id (suc at) xs) (positions_in v id (suc at) xs)

-- the positions that name a value, in text order
abbrev pub uses_in : Value → List BodyOp → List UsePosition
uses_in v [] = []
uses_in v (o ∷ ops) = positions_in v o.id 0 o.operands ++ uses_in v ops

-- whether two positions are the same
abbrev pub same_position : UsePosition → UsePosition → Bool
same_position p q = nat_eq p.op.index q.op.index && nat_eq p.at q.at

-- how many times a position stands among positions
abbrev pub use_times : UsePosition → List UsePosition → ℕ
use_times p [] = 0
use_times p (q ∷ positions) = cond (same_position q p) (suc (use_times p positions)) (use_times p positions)

-- a position, where its operation is live
abbrev pub live_use : List Link → Option UsePosition → Option UsePosition
live_use links None = None
live_use links (Some p) = cond (is_live_at links p.op.index) (Some p) None

-- the position of a cell among the operands of a live operation, if it is one of them
abbrev pub use_of : List Link → List ℕ → List Block → ℕ → Option UsePosition
use_of links owners blocks cell = live_use links (position_in owners blocks cell)

-- a position, where there is one, before others
abbrev pub with_use : Option UsePosition → List UsePosition → List UsePosition
with_use None positions = positions
with_use (Some p) positions = p ∷ positions

-- a position that is there
abbrev pub use_some : UsePosition → Option UsePosition
use_some p = Some p

-- the positions of cells
abbrev pub positions_of : List Link → List ℕ → List Block → List ℕ → List UsePosition
positions_of links owners blocks [] = []
positions_of links owners blocks (c ∷ cells) = with_use (use_of links owners blocks c) (positions_of links owners blocks cells)

-- those of some cells that are operands of live operations
abbrev pub live_cells : List Link → List ℕ → List Block → List ℕ → List ℕ
live_cells links owners blocks [] = []
live_cells links owners blocks (c ∷ cells) = cond (is_some (use_of links owners blocks c)) (c ∷ live_cells links owners blocks cells) (live_cells links owners blocks cells)

-- whether a value, where there is one, is a result of the operation of an id
abbrev pub is_some_of : ℕ → Option Value → Bool
is_some_of id None = false
is_some_of id (Some v) = is_of id v

-- whether a cell is an operand of a live operation that is a result of the operation of an id
abbrev pub names_at : List Link → List ℕ → List Block → List Value → ℕ → ℕ → Bool
names_at links owners blocks values id cell = cond (is_some_of id (slice_get values cell)) (is_some (use_of links owners blocks cell)) false

-- whether one of some cells is
abbrev pub any_names : List Link → List ℕ → List Block → List Value → ℕ → List ℕ → Bool
any_names links owners blocks values id [] = false
any_names links owners blocks values id (c ∷ cells) = cond (names_at links owners blocks values id c) true (any_names links owners blocks values id cells)

-- a live operation has a result of the operation of an id among its operands
pub record IsNamedLive (links : List Link) (lists : List (List Value)) (id : ℕ) : Type 0 where
  pub op : ℕ
  pub live : is_live_at links op ≡ true
  pub named : names_in id (slice_index_or lists op []) ≡ true

-- a cell of a value is an operand of a live operation
pub record IsUseCell (v : Value) (links : List Link) (t : OperandLists) (cell : ℕ) : Type 0 where
  pub there : Contains (cells_of v t.cells) cell
  pub live : is_some (use_of links t.owners t.blocks cell) ≡ true
  pub value : slice_index_or t.cells.items cell Undefined ≡ v
