use Rattle.std.proofs.Common.{◌≡◌, ℕ, map}
use Rattle.linked_lists.specs.Ids.{times}
use Rattle.ir_store.specs.BodyOps.{replace_value}
use Rattle.linked_lists.specs.Chains.{cell_or_none, once_if}
use Rattle.ir_store.specs.ChainedValues.{cells_of, has_value}
use Rattle.ir_store.proofs.Replacing.{value_count}
use Rattle.ir_store.proofs.chained_values.ChainedValues.replace.Given as goal

abbrev pub invariant-loop-at : goal.invariant-loop-at
invariant-loop-at l =
    (map (replace_value l.from l.to) l.self.items ≡ map (replace_value l.from l.to) l.fn.self.items)
    × ((l.self.room ≡ l.fn.self.room)
    × ((l.at ≡ cell_or_none (cells_of l.from l.self)) × ((d : ℕ) → times d (cells_of l.from l.self) ≡ once_if (has_value l.from l.self.items d))))

abbrev pub decreases-loop-at : goal.decreases-loop-at
decreases-loop-at l = value_count l.from l.self.items
