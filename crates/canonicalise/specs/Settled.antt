-- The worklist of a body: patterns are tried at each operation but those that are settled (MLIR documentation, "Pattern Rewriting").
use Rattle.std.specs.Prelude.{◌≡◌, ℕ, ◌≤◌, true, List, length, Some, None, Contains, slice_get}
use Rattle.ir_store.specs.declared.body.Body.{Body}
use Rattle.ir_store.specs.declared.operation.OpId.{OpId}
use Rattle.ir_store.specs.declared.operation.UsePosition.{UsePosition}
use Rattle.ir_store.specs.declared.operation.Value.{Value}
use Rattle.ir_store.specs.declared.operation.Value.TheVariants.{Result}
use Rattle.ir_store.specs.Bodies.{ids_of, ops_of}
use Rattle.ir_store.specs.BodyOps.{BodyOp}
use Rattle.ir_store.specs.Numbered.{position_of}
use Rattle.ir_store.specs.Uses.{uses_in, use_times}
use Rattle.body_edits.specs.Views.{body_ops}
use Rattle.canonicalise.specs.Canonical.{table}
use Rattle.canonicalise.specs.Runs.{HasRun, AreLinked, Breaks}
use Rattle.canonicalise.specs.declared.marks.Marks.{Marks}
use Rattle.canonicalise.specs.declared.runs.Run.{Run}

-- the operation of an id is settled
abbrev pub IsSettled : Marks → ℕ → Type 0
IsSettled m id = slice_get m.settled.items id ≡ Some true

-- each settled operation is there, and no pattern of the table matches at it
abbrev pub AreSettled : Marks → Body → Type 0
AreSettled m b = (id : ℕ) → IsSettled m id → Contains (ids_of b) id × (table (body_ops b) (position_of (ids_of b) id) ≡ None)

-- an operation uses a value at some position
pub record IsUser (v : Value) (ops : List BodyOp) (id : ℕ) : Type 0 where
  pub position : UsePosition
  pub own : position.op.index ≡ id
  pub used : 1 ≤ use_times position (uses_in v ops)

-- an operation is not that of id w, where that is gone or its first result has no use, and it has not the only use of that
pub record IsApart (b : Body) (w : OpId) (id : ℕ) : Type 0 where
  pub gone : (Contains (ids_of b) w.index → ⊥) → id ≡ w.index → ⊥
  pub unused : length (uses_in (Result w 0) (ops_of b)) ≡ 0 → id ≡ w.index → ⊥
  pub single : Contains (ids_of b) w.index → length (uses_in (Result w 0) (ops_of b)) ≡ 1 → IsUser (Result w 0) (ops_of b) id → ⊥

-- each operation of a whole run is settled
abbrev pub AreQuiet : Marks → Type 0
AreQuiet m = (id : ℕ) (run : Run) → HasRun m.runs id run → IsSettled m id

-- runs are broken at operations that are settled no more
pub record Loses (old new : Marks) : Type 0 where
  pub breaks : Breaks old.runs new.runs
  pub quiet : AreQuiet old → AreQuiet new

-- marks of a body: no pattern matches at settled operations, of which there are runs
pub record AreMarks (m : Marks) (b : Body) : Type 0 where
  pub settled : AreSettled m b
  pub quiet : AreQuiet m
  pub linked : AreLinked m.runs (ids_of b)
