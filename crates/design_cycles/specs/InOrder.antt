-- Bodies in which each operation takes what stands before it.
use Rattle.std.specs.Prelude.{◌≡◌, ℕ, ◌<◌, Bool, true, false, ◌&&◌, nat_eq, nat_lt, List, Option, Some, None, slice_get}
use Rattle.std.specs.List.{list_all}
use Rattle.wiring.specs.Wiring.{In}
use Rattle.hw_model.specs.Design.{Ref, Op, is_register}
use Rattle.hw_model.specs.Design.Ref.{port, result, undefined}
use Rattle.ir_store.specs.declared.body.Body.{Body}
use Rattle.ir_store.specs.declared.body.Op.{Op as CodeOp}
use Rattle.ir_store.specs.declared.operation.OpId.{OpId}
use Rattle.ir_store.specs.declared.operation.Value.{Value}
use Rattle.ir_store.specs.declared.operation.Value.TheVariants.{Port, Result, Undefined}
use Rattle.ir_store.specs.Bodies.{ops_of}
use Rattle.ir_store.specs.Numbered.{ops_by_position}
use Rattle.body_index.specs.OpIndexes.{op_view}

-- a value that is no result of an operation from a position on
abbrev pub StandsBefore : ℕ → Ref → Type 0
StandsBefore j (port p) = Unit {0}
StandsBefore j (result q k) = q < j
StandsBefore j undefined = Unit {0}

-- the operation at a position is a register, or takes what stands before it alone
abbrev pub StandsAfter : List Op → ℕ → Type 0
StandsAfter os j = (o : Op) → slice_get os j ≡ Some o → is_register o ≡ false → (r : Ref) → In r o.operands → StandsBefore j r

-- so does each operation
abbrev pub IsInOrder : List Op → Type 0
IsInOrder os = (j : ℕ) → StandsAfter os j

-- ---- as code tells it, where ids are numbered in text order

-- whether it is the id of a number
abbrev pub is_numbered : ℕ → Option OpId → Bool
is_numbered n None = false
is_numbered n (Some id) = nat_eq id.index n

-- whether the id of a number stands at that number
abbrev pub is_at_its_number : List OpId → ℕ → Bool
is_at_its_number ids n = is_numbered n (slice_get ids n)

-- whether a value is no result, or one of an operation whose id is numbered in text order and stands before a position
abbrev pub is_before : List OpId → ℕ → Value → Bool
is_before ids j (Port p) = true
is_before ids j (Result id k) = nat_lt id.index j && is_at_its_number ids id.index
is_before ids j Undefined = true

-- the operation at a position is no register, and one of its operands is not told to stand before it
pub record IsLate (b : Body) (ids : List OpId) (j : ℕ) : Type 0 where
  pub op_there : CodeOp
  pub has_op : slice_get (ops_by_position (ops_of b)) j ≡ Some (op_view b op_there)
  pub plain : is_register (op_view b op_there) ≡ false
  pub late : list_all (is_before ids j) op_there.operands.now ≡ false
