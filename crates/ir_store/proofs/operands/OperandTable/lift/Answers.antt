use Rattle.std.proofs.Common.{refl}
use Rattle.ir_store.specs.declared.blocks.Block.{Block}
use Rattle.ir_store.specs.Blocks.{block_at}
use Rattle.ir_store.proofs.BlockLists.{kept_without}
use Rattle.ir_store.proofs.operands.OperandTable.lift.Goals as goal

pub refill-requires-clause-kept : goal.refill-requires-clause-kept
refill-requires-clause-kept c =
    let b : Block = record { start = (block_at c.keep_all.new.self.blocks c.args.i).start; len = 0 } in
    rw (c.clear-else-block-tail.ensures.spare, c.clear-else-block-tail.ensures.blocks, c.clear-else-block-tail.ensures.lists, c.keep_all.ensures.lists)
    (kept_without c.keep_all.new.self.spare c.keep_all.new.self.blocks c.args.self.now.lists c.args.i b refl c.keep_all.ensures.kept)
