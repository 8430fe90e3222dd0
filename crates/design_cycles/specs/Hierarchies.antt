-- Hierarchies: which modules instance which, and an order of them.
use Rattle.std.specs.Prelude.{◌≡◌, ℕ, ◌<◌, length}
use Rattle.hw_model.specs.Design.{Design}
use Rattle.design_cycles.specs.Calls.{call_lists}
use Rattle.graphs.specs.Graphs.{lists_of}
use Rattle.graphs.specs.Orders.{IsOrder, MustWait}
use Rattle.design_cycles.specs.declared.hierarchy.Hierarchy.{Hierarchy}

-- a hierarchy is that of this design
pub record IsHierarchy (d : Design) (h : Hierarchy) : Type 0 where
  pub calls : lists_of h.calls.items ≡ call_lists d
  pub order : IsOrder (lists_of h.calls.items) h.order.placed.items h.order.nodes.items
  pub longest : (v : ℕ) → v < length h.calls.items → MustWait (lists_of h.calls.items) h.order.placed.items v
