-- The tables of a scheduler in code.
use Rattle.std.specs.Prelude.{map}
use Rattle.sched_core.specs.declared.sched.Sched.TheInside.{Inside}
use Rattle.sched_core.specs.Table.{Table}

-- the tables that the fields hold
abbrev pub table_of : Inside → Table
table_of s = record {
  callees = map (λ row. row.items) s.callees.items;
  leaf_modules = s.leaves.items;
  uses = s.uses.items;
  stages = s.stages.items;
  edges = map (λ row. row.items) s.edges.items;
  pending_edges = s.pending_edges.items;
  leaf = s.leaf;
  splits = s.splits;
  workers = s.workers.items;
  heirs = s.heirs.items;
  busy = s.busy.items;
  untold = s.untold.items;
}
