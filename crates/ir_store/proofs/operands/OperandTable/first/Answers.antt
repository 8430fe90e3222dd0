use Rattle.ir_store.specs.ChainedValues.{cells_of}
use Rattle.ir_store.proofs.UseCounts.{chain_uses}
use Rattle.ir_store.proofs.operands.OperandTable.first.Goals as goal

pub returns-clause-uses : goal.returns-clause-uses
returns-clause-uses c =
    λ links p.
    rw (← c.self.view_is)
    (chain_uses links c.self.inside.cells.values.items c.self.inside.cells.owners.items c.self.inside.blocks.items c.self.inside.live c.self.invariant.0 c.args.value
    (cells_of c.args.value c.self.inside.cells.values) c.first.ensures.each p)
