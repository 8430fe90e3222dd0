use Rattle.std.proofs.Common.{◌≡◌, ◌<◌, ℕ}
use Rattle.ir_store.specs.declared.operation.UsePosition.{UsePosition}
use Rattle.ir_store.specs.Bodies.{ops_of}
use Rattle.ir_store.specs.Uses.{uses_in, use_times}
use Rattle.ir_store.specs.UsesLeft.{uses_left}
use Rattle.canonicalise.specs.Settled.{IsSettled, Loses}
use Rattle.canonicalise.proofs.marks.Marks.mark_users.Given as goal

-- the operations of the uses that are passed are not settled
abbrev pub invariant-loop-position : goal.invariant-loop-position
invariant-loop-position l = record {
  marked :
      (id : ℕ) → IsSettled l.self id
      → IsSettled l.fn.self id × ((p : UsePosition) → use_times p (uses_left l.position-iterator) < use_times p (uses_in l.fn.value (ops_of l.body)) → p.op.index ≡ id → ⊥);
  loses : Loses l.fn.self l.self;
}
