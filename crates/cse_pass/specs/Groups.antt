-- The pure operations among some of a body, grouped by their hashes.
use Rattle.std.specs.Prelude.{◌≡◌, ℕ, Bool, true, ◌&&◌, nat_eq, List, [], map, filter, Option, Some, None}
use Rattle.std.specs.List.{list_any}
use Rattle.std.specs.Global.{Vec}
use Rattle.indexmap.specs.IndexMap.{get}
use Rattle.indexmap.specs.IndexSet.{contains}
use Rattle.ir_store.specs.declared.operation.OpId.{OpId}
use Rattle.ir_store.specs.Bodies.{op_id}
use Rattle.ir_store.specs.BodyOps.{BodyOp, names_in}
use Rattle.fold_laws.specs.Unused.{is_pure}
use Rattle.cse_pass.specs.declared.groups.Groups.{Groups}
use Rattle.cse_pass.specs.Hashes.{hash_of}

-- the items of a list, where there is one
abbrev pub items_of : Option (Vec OpId) → List OpId
items_of None = []
items_of (Some v) = v.items

-- the ids that stand under a hash
abbrev pub group_of : Groups → ℕ → List OpId
group_of g h = items_of (get nat_eq g.by_hash h)

-- whether an id is noted as that of an operand
abbrev pub is_noted : Groups → ℕ → Bool
is_noted g id = contains nat_eq g.named id

-- whether an operation is pure and has a hash
unfoldable pub has_hash : ℕ → BodyOp → Bool
has_hash h o = is_pure o.parts.kind && nat_eq (hash_of o.parts o.operands) h

-- the ids of those
abbrev pub group_in : ℕ → List BodyOp → List OpId
group_in h ops = map (λ (o : BodyOp). op_id o.id) (filter (has_hash h) ops)

-- whether an operation is pure and an operand is a result of the one of an id
unfoldable pub takes_purely : ℕ → BodyOp → Bool
takes_purely id o = is_pure o.parts.kind && names_in id o.operands

-- the groups are those of the operations, and what pure ones take is noted
pub record IsGrouping (g : Groups) (ops : List BodyOp) : Type 0 where
  pub groups : (h : ℕ) → group_of g h ≡ group_in h ops
  pub noted : (id : ℕ) → list_any (takes_purely id) ops ≡ true → is_noted g id ≡ true
