use Rattle.std.proofs.Common.{ap, arith}
use Rattle.ir_store.specs.Blocks.{OperandLists}
use Rattle.ir_store.proofs.BlockLists.{block_is, in_blocks, length_at, list_set}
use Rattle.ir_store.proofs.operands.OperandTable.set.Goals as goal

pub returns-clause-lists : goal.returns-clause-lists
returns-clause-lists c =
    let h = in_blocks c.self.inside.cells.values.items c.self.inside.blocks.items c.args.self.now.lists c.args.i (ap (λ (t : OperandLists). t.lists) c.self.view_is) c.requires.list in
    let place = rw (← c.self.view_is) at c.requires.position in
    let b = block_is c.self.inside.blocks.items c.args.i c.index.result.now h c.index.ensures in
    rw (c.set.ensures.values, ← b, ← c.self.view_is)
    (list_set c.self.inside.cells.values.items c.self.inside.cells.owners.items c.self.inside.blocks.items c.self.inside.live c.self.invariant.0 c.args.i c.args.at c.args.value h
    (omega (arith, place, length_at c.self.inside.cells.values.items c.self.inside.cells.owners.items c.self.inside.blocks.items c.self.inside.live c.self.invariant.0 c.args.i)))
