-- The ids that an order holds.
use Rattle.std.specs.Prelude.{ℕ, ◌-◌, List, length}
use Rattle.ir_store.specs.declared.order.Order.{Order}
use Rattle.linked_lists.specs.Links.{walk}

-- the ids that are live, in text order
abbrev pub live_ids : Order → List ℕ
live_ids o = walk o.links.items o.live o.first

-- how many ids are free
abbrev pub free_ids : Order → ℕ
free_ids o = length o.links.items - o.live
