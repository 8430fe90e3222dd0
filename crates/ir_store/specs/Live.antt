-- Bodies whose operands are ports, nothing, or results of operations that are there.
use Rattle.std.specs.Prelude.{ℕ, ◌≤◌, List, All, Contains}
use Rattle.ir_store.specs.declared.operation.Value.{Value}
use Rattle.ir_store.specs.declared.operation.Value.TheVariants.{Port, Result, Undefined}
use Rattle.linked_lists.specs.Ids.{times}
use Rattle.ir_store.specs.BodyOps.{BodyOp, ids_in}

-- a value is no result of an operation that is not among the ids
abbrev pub IsLive : List ℕ → Value → Type 0
IsLive ids (Port n) = Unit {0}
IsLive ids (Result id k) = Contains ids id.index
IsLive ids Undefined = Unit {0}

-- so are the operands of an operation
abbrev pub HasLive : List ℕ → BodyOp → Type 0
HasLive ids o = All (IsLive ids) o.operands

-- and of all operations of a body
abbrev pub AreLive : List BodyOp → Type 0
AreLive ops = All (HasLive (ids_in ops)) ops

-- each id stands at most once among ids
abbrev pub AreDistinct : List ℕ → Type 0
AreDistinct ids = (v : ℕ) → times v ids ≤ 1
