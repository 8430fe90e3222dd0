-- What a body stands for.
use Rattle.std.specs.Prelude.{ℕ, ◌+◌, ◌-◌, List, [], ◌∷◌, Option, Some, None, length, map, min}
use Rattle.std.specs.Vec.{vec_capacity}
use Rattle.hw_model.specs.KindViews.{kind_of}
use Rattle.ir_store.specs.declared.operation.OpId.{OpId}
use Rattle.ir_store.specs.declared.body.Body.{Body}
use Rattle.ir_store.specs.declared.body.Op.{Op}
use Rattle.ir_store.specs.declared.ops.Ops.{Ops}
use Rattle.ir_store.specs.DictionaryViews.{entries_in}
use Rattle.ir_store.specs.OperationViews.{OpParts, parts_of, types_in, results_in, location_of}
use Rattle.linked_lists.specs.Links.{walk}
use Rattle.ir_store.specs.Orders.{live_ids, free_ids}
use Rattle.ir_store.specs.BodyOps.{BodyOp, stored_op, ids_in}

-- the operations, each with its id, in text order
abbrev pub ops_of : Body → List BodyOp
ops_of b = map (stored_op (map parts_of b.parts.items) b.operands.lists) (live_ids b.order)

-- the ids of the operations, in text order
abbrev pub ids_of : Body → List ℕ
ids_of b = ids_in (ops_of b)

-- how many more operations, and how many more operands, have room
abbrev pub spare_ops : Body → ℕ
spare_ops b = min (vec_capacity b.order.links) (min (vec_capacity b.parts) (length b.operands.lists + b.operands.list_room)) - b.order.live

abbrev pub spare_uses : Body → ℕ
spare_uses b = b.operands.room

-- how many ids were freed and are not used again
abbrev pub gaps : Body → ℕ
gaps b = free_ids b.order

-- the parts of an operation that is read
abbrev pub read_parts : Op → OpParts
read_parts o = record {
  kind = kind_of o.kind.now;
  types = types_in o.types.now;
  results = results_in o.results.now;
  named = o.named;
  name = o.name.now;
  dictionary = entries_in o.dictionary.now;
  bin = o.bin;
  location = location_of o.location;
}

-- an operation that is read, with its id
abbrev pub read_op : OpId → Op → BodyOp
read_op id o = record { id = id.index; parts = read_parts o; operands = o.operands.now }

-- an id by its number
abbrev pub op_id : ℕ → OpId
op_id n = record { index = n }

-- the ids that an iterator has left
abbrev pub ids_left : Ops → List OpId
ids_left s = map op_id (walk s.links.now s.left s.at)

-- the first of ids
abbrev pub first_id : List OpId → Option OpId
first_id [] = None
first_id (i ∷ ids) = Some i
