use Rattle.std.proofs.Common.{◌≡◌, length}
use Rattle.std.specs.Prelude.{IfSome, Contains}
use Rattle.ir_store.specs.declared.operation.Value.TheVariants.{Result}
use Rattle.ir_store.specs.ChainedValues.{chain_near, rest_at}
use Rattle.ir_store.specs.Uses.{any_names}
use Rattle.ir_store.proofs.operands.OperandTable.is_named.Given as goal

abbrev pub invariant-loop-at : goal.invariant-loop-at
invariant-loop-at l =
    (IfSome l.at (λ d. Contains (chain_near (Result l.op 0) l.self.cells) d))
    × (any_names l.links l.self.owners l.self.blocks l.self.cells.items l.op.index (chain_near (Result l.op 0) l.self.cells)
    ≡ any_names l.links l.self.owners l.self.blocks l.self.cells.items l.op.index (rest_at l.at (chain_near (Result l.op 0) l.self.cells)))

abbrev pub decreases-loop-at : goal.decreases-loop-at
decreases-loop-at l = length (rest_at l.at (chain_near (Result l.op 0) l.self.cells))
