use Rattle.ir_store.specs.BodyOps.{replace_value}
use Rattle.ir_store.proofs.BlockLists.{lists_mapped}
use Rattle.ir_store.proofs.operands.OperandTable.replace.Goals as goal

pub returns-clause-lists : goal.returns-clause-lists
returns-clause-lists c = rw (c.replace.ensures.items, ← c.self.view_is) (lists_mapped (replace_value c.args.from c.args.to) c.self.inside.cells.values.items c.self.inside.blocks.items)
