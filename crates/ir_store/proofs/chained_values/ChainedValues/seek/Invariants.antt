use Rattle.std.proofs.Common.{◌≡◌, [], length, get_or}
use Rattle.std.specs.Prelude.{Contains, IfSome}
use Rattle.linked_lists.specs.Chains.{cell_or_none}
use Rattle.ir_store.specs.ChainedValues.{cells_with, rest_at}
use Rattle.ir_store.proofs.chained_values.ChainedValues.seek.Given as goal

abbrev pub invariant-loop-at : goal.invariant-loop-at
invariant-loop-at l =
    (IfSome l.at (λ d. Contains (get_or l.self.chains l.head []) d))
    × (cell_or_none (cells_with l.value l.self.items (rest_at l.fn.from (get_or l.self.chains l.head []))) ≡ cell_or_none (cells_with l.value l.self.items (rest_at l.at (get_or l.self.chains l.head []))))

abbrev pub decreases-loop-at : goal.decreases-loop-at
decreases-loop-at l = length (rest_at l.at (get_or l.self.chains l.head []))
