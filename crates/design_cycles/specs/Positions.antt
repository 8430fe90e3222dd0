-- Positions in code: a module's number and the id of one of its operations.
use Rattle.std.specs.Prelude.{◌≡◌, ℕ, ◌≤◌, List, [], Option, Some, None, slice_get}
use Rattle.hw_model.specs.Types.{Name}
use Rattle.ir_store.specs.declared.operation.OpId.{OpId}
use Rattle.ir_store.specs.BodyOps.{ids_in}
use Rattle.ir_store.specs.Designs.{StoredModule}
use Rattle.design_cycles.specs.declared.op_site.OpSite.{OpSite}

-- the operation is the first of those with these ids of whose position it holds
pub record IsFirstOp (P : ℕ → Type 0) (ids : List ℕ) (op : OpId) : Type 0 where
  pub position : ℕ
  pub holds : P position
  pub first : (j : ℕ) → P j → position ≤ j
  pub has_id : slice_get ids position ≡ Some op.index

-- it holds of no position; or the operation is the first of whose position it holds
abbrev pub FindsOp : (ℕ → Type 0) → List ℕ → Option OpId → Type 0
FindsOp P ids None = (j : ℕ) → P j → ⊥
FindsOp P ids (Some op) = IsFirstOp P ids op

-- the symbol of a module
abbrev pub symbol_of : Option StoredModule → Name
symbol_of None = []
symbol_of (Some m) = m.symbol

abbrev pub symbol_at : List StoredModule → ℕ → Name
symbol_at modules i = symbol_of (slice_get modules i)

-- the ids of a module's operations
abbrev pub ids_of_module : Option StoredModule → List ℕ
ids_of_module None = []
ids_of_module (Some m) = ids_in m.ops

abbrev pub ids_at : List StoredModule → ℕ → List ℕ
ids_at modules i = ids_of_module (slice_get modules i)

-- the operation is the first in text order of whose position it holds
pub record IsFirst (modules : List StoredModule) (P : ℕ → ℕ → Type 0) (position : OpSite) : Type 0 where
  pub found : IsFirstOp (P position.module) (ids_at modules position.module) position.op
  pub earlier : (i j : ℕ) → P i j → position.module ≤ i

-- it holds of no position; or the operation is the first of whose position it holds
abbrev pub Finds : List StoredModule → (ℕ → ℕ → Type 0) → Option OpSite → Type 0
Finds modules P None = (i j : ℕ) → P i j → ⊥
Finds modules P (Some position) = IsFirst modules P position

-- it holds of a number, and of none below it
pub record IsFirstNumber (P : ℕ → Type 0) (i : ℕ) : Type 0 where
  pub holds : P i
  pub first : (k : ℕ) → P k → i ≤ k

-- it holds of no number; or the number is the first of which it holds
abbrev pub FindsNumber : (ℕ → Type 0) → Option ℕ → Type 0
FindsNumber P None = (i : ℕ) → P i → ⊥
FindsNumber P (Some i) = IsFirstNumber P i
