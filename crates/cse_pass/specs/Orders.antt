-- Operations that are merged in an order of their own: which stands before which is told by a table of their first positions.
use Rattle.std.specs.Prelude.{◌≡◌, ◌<◌, ℕ, nat_lt, Bool, true, false, List, Option, Some, slice_get}
use Rattle.ir_store.specs.declared.body.Body.{Body}
use Rattle.ir_store.specs.declared.operation.OpId.{OpId}
use Rattle.ir_store.specs.Bodies.{ops_of}
use Rattle.body_edits.specs.Views.{HasOp, position_in}
use Rattle.cse_pass.specs.Same.{are_same_at}

-- whether both positions are there, and the first is below the second
abbrev pub is_below : Option ℕ → Option ℕ → Bool
is_below (Some m) (Some n) = nat_lt m n
is_below _ _ = false

-- whether the table has the operation of one id before that of another
abbrev pub stands_before : List ℕ → OpId → OpId → Bool
stands_before places a c = is_below (slice_get places a.index) (slice_get places c.index)

-- the operations of a body stand in the order that the table has
abbrev pub AreInOrder : List ℕ → Body → Type 0
AreInOrder places b = (a c : OpId) → HasOp b a → HasOp b c → stands_before places a c ≡ true → position_in b a < position_in b c

-- an operation that the table has before another one, and that has the same kind, operands and types
pub record IsEarlierSame (places : List ℕ) (b : Body) (op first : OpId) : Type 0 where
  pub there : HasOp b first
  pub before : stands_before places first op ≡ true
  pub same : are_same_at (ops_of b) first op ≡ true
