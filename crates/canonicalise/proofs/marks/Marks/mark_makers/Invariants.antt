use Rattle.std.proofs.Common.{◌≡◌, ◌<◌, ℕ, Some, slice_get}
use Rattle.ir_store.specs.declared.operation.OpId.{OpId}
use Rattle.ir_store.specs.declared.operation.Value.TheVariants.{Result}
use Rattle.canonicalise.specs.Settled.{IsSettled, IsApart, Loses}
use Rattle.canonicalise.proofs.marks.Marks.mark_makers.Given as goal

-- the operations that the values so far leave without uses, or with the only one, are not settled
abbrev pub invariant-loop-value : goal.invariant-loop-value
invariant-loop-value l = record {
  marked :
      (id : ℕ) → IsSettled l.self id
      → IsSettled l.fn.self id × ((k : ℕ) (op : OpId) (n : ℕ) → k < l.value-index → slice_get l.values k ≡ Some (Result op n) → IsApart l.body op id);
  loses : Loses l.fn.self l.self;
}
