-- Values in order, those that may be equal linked in chains.
use Rattle.std.specs.Prelude.{◌≡◌, ℕ, ◌+◌, ◌*◌, ◌%◌, ◌<◌, ◌≤◌, ◌^◌, Bool, false, cond, nat_eq, List, [], ◌∷◌, Option, Some, None, length, option_map, slice_get, slice_index_or}
use Rattle.ir_store.specs.declared.operation.Value.{Value}
use Rattle.ir_store.specs.declared.operation.Value.TheVariants.{Port, Result, Undefined}
use Rattle.linked_lists.specs.Ids.{times}
use Rattle.ir_store.specs.BodyOps.{same_value}
use Rattle.linked_lists.specs.Chains.{ChainTable, has_head, once_if}

-- the number from which a value's head follows, one for all results of an operation; the factors are primes of xxHash for 32 bits
abbrev pub value_number : Value → ℕ
value_number (Port n) = n * 2246822519 + 374761393
value_number (Result i k) = i.index
value_number Undefined = 668265263

-- the head of a value among so many
unfoldable pub head_of : ℕ → Value → ℕ
head_of heads v = value_number v % heads

-- the head of the value of a cell
abbrev pub head_at : ℕ → List Value → ℕ → Option ℕ
head_at heads values cell = option_map (head_of heads) (slice_get values cell)

-- the values in order, the cells of each head, and for how many more values there is room
pub record ValueChains : Type 0 where
  pub items : List Value
  pub chains : List (List ℕ)
  pub room : ℕ

-- each value's cell is in the chain of the value's head, once, and in no other one
pub record AreIndexed (values : List Value) (table : ChainTable) : Type 0 where
  pub few : length values < 2 ^ 32
  pub enough : length values ≤ length table.chains
  pub known : length values ≤ table.cells
  pub small : length values ≤ table.room
  pub members : (s cell : ℕ) → times cell (slice_index_or table.chains s []) ≡ once_if (has_head (head_at (length table.chains) values cell) s)

-- whether the value of a cell is this one
abbrev pub is_value : Value → Option Value → Bool
is_value v None = false
is_value v (Some x) = same_value v x

abbrev pub has_value : Value → List Value → ℕ → Bool
has_value v values cell = is_value v (slice_get values cell)

-- those of some cells that have a value
abbrev pub cells_with : Value → List Value → List ℕ → List ℕ
cells_with v values [] = []
cells_with v values (c ∷ cells) = cond (has_value v values c) (c ∷ cells_with v values cells) (cells_with v values cells)

-- the cells of the chain of a value's head
abbrev pub chain_near : Value → ValueChains → List ℕ
chain_near v t = slice_index_or t.chains (head_of (length t.chains) v) []

-- the cells that have a value, in the order of their chain
abbrev pub cells_of : Value → ValueChains → List ℕ
cells_of v t = cells_with v t.items (chain_near v t)

-- the cells from one on
abbrev pub from_cell : ℕ → List ℕ → List ℕ
from_cell c [] = []
from_cell c (x ∷ xs) = cond (nat_eq x c) (x ∷ xs) (from_cell c xs)

-- the cells from a position on; from none on there are none
abbrev pub rest_at : Option ℕ → List ℕ → List ℕ
rest_at None cells = []
rest_at (Some c) cells = from_cell c cells
