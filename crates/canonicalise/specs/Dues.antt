-- The operation that a sweep visits next.
use Rattle.std.specs.Prelude.{◌≡◌, ℕ, suc, List, map, drop, Option, Some, None, Contains}
use Rattle.ir_store.specs.declared.operation.OpId.{OpId}
use Rattle.ir_store.specs.Bodies.{op_id, first_id}
use Rattle.ir_store.specs.Numbered.{position_of}

-- the id after another one
abbrev pub id_after : List ℕ → OpId → Option OpId
id_after ids op = first_id (map op_id (drop (suc (position_of ids op.index)) ids))

-- where there is that one
abbrev pub after_some : List ℕ → Option OpId → Option OpId
after_some ids None = None
after_some ids (Some op) = id_after ids op

-- it is the first one, where that is among the ids or there is none, and else the second
abbrev pub IsDue : List ℕ → Option OpId → Option OpId → Option OpId → Type 0
IsDue ids None second due = due ≡ None
IsDue ids (Some next) second due = (Contains ids next.index → due ≡ Some next) × ((Contains ids next.index → ⊥) → due ≡ second)
