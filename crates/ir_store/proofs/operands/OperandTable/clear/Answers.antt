use Rattle.std.proofs.Common.{◌≡◌, ◌-◌, ap, sym, refl, arith, length-set}
use Rattle.ir_store.specs.declared.blocks.Block.{Block}
use Rattle.ir_store.specs.Blocks.{OperandLists, cell_room}
use Rattle.ir_store.proofs.BlockLists.{block_is, in_blocks, block_le, blocks_shrunk, list_cleared, length_at}
use Rattle.ir_store.proofs.operands.OperandTable.clear.Goals as goal

pub overflow_sub-self : goal.overflow_sub-self
overflow_sub-self c =
    let h = in_blocks c.self.inside.cells.values.items c.self.inside.blocks.items c.args.self.now.lists c.args.i (ap (λ (t : OperandLists). t.lists) c.self.view_is) c.requires in
    let b = block_is c.self.inside.blocks.items c.args.i c.index-block.result.now h c.index-block.ensures in
    omega (arith, block_le c.self.inside.blocks.items c.args.i, ap (λ (d : Block). d.len) b, c.self.invariant.0.count)

pub invariant_of-self : goal.invariant_of-self
invariant_of-self c =
    let h = in_blocks c.self.inside.cells.values.items c.self.inside.blocks.items c.args.self.now.lists c.args.i (ap (λ (t : OperandLists). t.lists) c.self.view_is) c.requires in
    let b = block_is c.self.inside.blocks.items c.args.i c.index-block.result.now h c.index-block.ensures in
    let w = block_is c.self.inside.blocks.items c.args.i c.index_mut.result.now h c.index_mut.ensures.value in
    let nb : Block = record { start = c.index_mut.result.now.start; len = 0 } in
    rw c.wipe.ensures.owners (
      blocks_shrunk c.self.inside.cells.values.items c.self.inside.cells.owners.items c.self.inside.blocks.items c.self.inside.live c.self.invariant.0 c.wipe.new.self.values.items c.args.i nb
          (c.self.inside.live - c.index-block.result.now.len) c.wipe.ensures.count h (sym (ap (λ (d : Block). d.start) w)) (omega arith)
          (omega (arith, block_le c.self.inside.blocks.items c.args.i, ap (λ (d : Block). d.len) b, c.self.invariant.0.count)),
      (omega (arith, c.wipe.ensures.count, c.self.invariant.1.0), omega (arith, length-set c.self.inside.blocks.items c.args.i nb, c.self.invariant.1.1)),
    )

pub returns-clause-lists : goal.returns-clause-lists
returns-clause-lists c =
    let h = in_blocks c.self.inside.cells.values.items c.self.inside.blocks.items c.args.self.now.lists c.args.i (ap (λ (t : OperandLists). t.lists) c.self.view_is) c.requires in
    let b = block_is c.self.inside.blocks.items c.args.i c.index-block.result.now h c.index-block.ensures in
    rw (← c.self.view_is)
    (list_cleared c.self.inside.cells.values.items c.self.inside.cells.owners.items c.self.inside.blocks.items c.self.inside.live c.self.invariant.0 c.wipe.new.self.values.items c.args.i _ c.wipe.ensures.count h refl
    (λ d n. c.wipe.ensures.others d (λ p q. n (omega (arith, p, ap (λ (e : Block). e.start) b)) (omega (arith, q, ap (λ (e : Block). e.start) b, ap (λ (e : Block). e.len) b)))))

pub returns-clause-room : goal.returns-clause-room
returns-clause-room c =
    let h = in_blocks c.self.inside.cells.values.items c.self.inside.blocks.items c.args.self.now.lists c.args.i (ap (λ (t : OperandLists). t.lists) c.self.view_is) c.requires in
    let b = block_is c.self.inside.blocks.items c.args.i c.index-block.result.now h c.index-block.ensures in
    let room : cell_room c.wipe.new.self ≡ cell_room c.self.inside.cells = rw (c.wipe.ensures.room, c.wipe.ensures.owners) refl in
    rw (← c.self.view_is)
    (omega (arith, room, c.wipe.ensures.count, length_at c.self.inside.cells.values.items c.self.inside.cells.owners.items c.self.inside.blocks.items c.self.inside.live c.self.invariant.0 c.args.i, ap (λ (e : Block). e.len) b, c.self.invariant.0.fits, c.self.invariant.0.count, block_le c.self.inside.blocks.items c.args.i, c.self.invariant.1.0))
