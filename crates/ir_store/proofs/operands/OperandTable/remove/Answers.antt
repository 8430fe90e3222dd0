use Rattle.std.proofs.Common.{◌≡◌, ◌+◌, ◌-◌, ap, sym, refl, arith, length-set}
use Rattle.ir_store.specs.declared.blocks.Block.{Block}
use Rattle.ir_store.specs.Blocks.{OperandLists, cell_room}
use Rattle.ir_store.proofs.BlockLists.{block_is, in_blocks, block_le, blocks_shrunk, list_removed, length_at}
use Rattle.ir_store.proofs.operands.OperandTable.remove.Goals as goal

pub overflow_sub-self : goal.overflow_sub-self
overflow_sub-self c =
    let h = in_blocks c.self.inside.cells.values.items c.self.inside.blocks.items c.args.self.now.lists c.args.i (ap (λ (t : OperandLists). t.lists) c.self.view_is) c.requires.list in
    let place = rw (← c.self.view_is) at c.requires.position in
    omega (arith, block_le c.self.inside.blocks.items c.args.i, length_at c.self.inside.cells.values.items c.self.inside.cells.owners.items c.self.inside.blocks.items c.self.inside.live c.self.invariant.0 c.args.i, place, c.self.invariant.0.count)

pub invariant_of-self : goal.invariant_of-self
invariant_of-self c =
    let h = in_blocks c.self.inside.cells.values.items c.self.inside.blocks.items c.args.self.now.lists c.args.i (ap (λ (t : OperandLists). t.lists) c.self.view_is) c.requires.list in
    let b = block_is c.self.inside.blocks.items c.args.i c.index-block.result.now h c.index-block.ensures in
    let w = block_is c.self.inside.blocks.items c.args.i c.index_mut.result.now h c.index_mut.ensures.value in
    let place = rw (← c.self.view_is) at c.requires.position in
    let long = length_at c.self.inside.cells.values.items c.self.inside.cells.owners.items c.self.inside.blocks.items c.self.inside.live c.self.invariant.0 c.args.i in
    let nb : Block = record { start = c.index_mut.result.now.start; len = c.index-block.result.now.len - 1 } in
    rw c.close_gap.ensures.owners (
      blocks_shrunk c.self.inside.cells.values.items c.self.inside.cells.owners.items c.self.inside.blocks.items c.self.inside.live c.self.invariant.0 c.close_gap.new.self.values.items c.args.i nb
          (c.self.inside.live - 1) c.close_gap.ensures.count h (sym (ap (λ (d : Block). d.start) w)) (omega (arith, ap (λ (d : Block). d.len) b))
          (omega (arith, block_le c.self.inside.blocks.items c.args.i, ap (λ (d : Block). d.len) b, c.self.invariant.0.count, long, place)),
      (omega (arith, c.close_gap.ensures.count, c.self.invariant.1.0), omega (arith, length-set c.self.inside.blocks.items c.args.i nb, c.self.invariant.1.1)),
    )

pub returns-clause-lists : goal.returns-clause-lists
returns-clause-lists c =
    let h = in_blocks c.self.inside.cells.values.items c.self.inside.blocks.items c.args.self.now.lists c.args.i (ap (λ (t : OperandLists). t.lists) c.self.view_is) c.requires.list in
    let b = block_is c.self.inside.blocks.items c.args.i c.index-block.result.now h c.index-block.ensures in
    let w = block_is c.self.inside.blocks.items c.args.i c.index_mut.result.now h c.index_mut.ensures.value in
    let place = rw (← c.self.view_is) at c.requires.position in
    let start = ap (λ (d : Block). d.start) b in
    let len = ap (λ (d : Block). d.len) b in
    let long = length_at c.self.inside.cells.values.items c.self.inside.cells.owners.items c.self.inside.blocks.items c.self.inside.live c.self.invariant.0 c.args.i in
    rw (← c.self.view_is)
    (list_removed c.self.inside.cells.values.items c.self.inside.cells.owners.items c.self.inside.blocks.items c.self.inside.live c.self.invariant.0 c.close_gap.new.self.values.items c.args.i c.args.at (c.index-block.result.now.start + c.args.at) (c.index-block.result.now.start + (c.index-block.result.now.len - 1)) _
    c.close_gap.ensures.count h (omega (arith, place, long)) (omega (arith, start)) (omega (arith, start, len)) (sym (ap (λ (d : Block). d.start) w)) (omega (arith, len)) c.close_gap.ensures.moved c.close_gap.ensures.others)

pub returns-clause-room : goal.returns-clause-room
returns-clause-room c =
    let h = in_blocks c.self.inside.cells.values.items c.self.inside.blocks.items c.args.self.now.lists c.args.i (ap (λ (t : OperandLists). t.lists) c.self.view_is) c.requires.list in
    let place = rw (← c.self.view_is) at c.requires.position in
    let room : cell_room c.close_gap.new.self ≡ cell_room c.self.inside.cells = rw (c.close_gap.ensures.room, c.close_gap.ensures.owners) refl in
    rw (← c.self.view_is)
    (omega (arith, room, c.close_gap.ensures.count, length_at c.self.inside.cells.values.items c.self.inside.cells.owners.items c.self.inside.blocks.items c.self.inside.live c.self.invariant.0 c.args.i, place, c.self.invariant.0.fits, c.self.invariant.0.count, block_le c.self.inside.blocks.items c.args.i, c.self.invariant.1.0))
