use Rattle.std.proofs.Common.{◌≡◌, ◌++◌, map}
use Rattle.std.specs.Prelude.{All, Contains}
use Rattle.ir_store.specs.declared.operation.OpId.{OpId}
use Rattle.ir_store.specs.Bodies.{ops_of, ids_of, ids_left}
use Rattle.op_verifier.specs.Entries.{op_in, types_beside, settled_for}
use Rattle.ir_store.proofs.Walks.{ops_at}
use Rattle.op_verifier.proofs.entries.Entry.all.Given as goal

abbrev pub invariant-loop-id : goal.invariant-loop-id
invariant-loop-id l = record {
  live : All (λ (i : OpId). Contains (ids_of l.body) i.index) (ids_left l.id-iterator);
  ops : map op_in l.entries.items ++ ops_at (ops_of l.body) (ids_left l.id-iterator) ≡ ops_of l.body;
  settled : map types_beside l.entries.items ≡ map settled_for (map op_in l.entries.items);
}
