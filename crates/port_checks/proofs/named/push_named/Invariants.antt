use Rattle.std.proofs.Common.{◌≡◌, ◌++◌}
use Rattle.std.specs.Prelude.{All, Contains}
use Rattle.hw_model.specs.Design.{Op}
use Rattle.ir_store.specs.declared.operation.OpId.{OpId}
use Rattle.ir_store.specs.Bodies.{ids_of, ops_of, ids_left}
use Rattle.ir_store.specs.Designs.{ports_in}
use Rattle.port_checks.specs.Joins.{named_port, position_of}
use Rattle.ir_store.proofs.Walks.{ops_at}
use Rattle.port_checks.proofs.Making.{made_of}
use Rattle.port_checks.proofs.named.push_named.Given as goal

abbrev pub invariant-loop-id : goal.invariant-loop-id
invariant-loop-id l = record {
  live : All (λ (i : OpId). Contains (ids_of l.owner.body) i.index) (ids_left l.id-iterator);
  items : l.named.items ++ made_of (λ (o : Op). position_of l.number (named_port (ports_in l.owner.ports) o)) (ops_at (ops_of l.owner.body) (ids_left l.id-iterator))
      ≡ l.fn.named.items ++ made_of (λ (o : Op). position_of l.number (named_port (ports_in l.owner.ports) o)) (ops_of l.owner.body);
}
