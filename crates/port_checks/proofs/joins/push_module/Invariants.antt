use Rattle.std.proofs.Common.{ℕ, List}
use Rattle.std.specs.Prelude.{All, Contains}
use Rattle.ir_store.specs.declared.operation.OpId.{OpId}
use Rattle.ir_store.specs.Bodies.{ids_of, ops_of, ids_left}
use Rattle.ir_store.specs.Designs.{ports_in, design_of}
use Rattle.graphs.specs.Graphs.{lists_of}
use Rattle.port_checks.specs.Pairs.{AddsPairs}
use Rattle.port_checks.specs.Joins.{instance_pairs}
use Rattle.ir_store.proofs.Walks.{ops_at}
use Rattle.port_checks.proofs.Making.{made_of}
use Rattle.port_checks.proofs.joins.push_module.Given as goal

abbrev pub invariant-loop-id : goal.invariant-loop-id
invariant-loop-id l = record {
  live : All (λ (i : OpId). Contains (ids_of l.owner.body) i.index) (ids_left l.id-iterator);
  pairs : (end : List (List ℕ))
      → AddsPairs (made_of (instance_pairs (design_of l.design) l.starts l.number (ports_in l.owner.ports)) (ops_at (ops_of l.owner.body) (ids_left l.id-iterator)))
      (lists_of l.joined.items) end
      → AddsPairs (made_of (instance_pairs (design_of l.design) l.starts l.number (ports_in l.owner.ports)) (ops_of l.owner.body)) (lists_of l.fn.joined.items) end;
}
