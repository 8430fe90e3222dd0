use Rattle.std.proofs.Common.{◌≡◌, ◌+◌, ◌-◌, length, ap, refl, arith, length-append, length-set}
use Rattle.ir_store.specs.declared.blocks.Block.{Block}
use Rattle.ir_store.specs.Blocks.{OperandLists, block_at}
use Rattle.ir_store.proofs.BlockLists.{in_blocks, length_at, blocks_placed, list_placed}
use Rattle.ir_store.proofs.operands.OperandTable.place.Goals as goal

pub invariant_of-self : goal.invariant_of-self
invariant_of-self c =
    let h = in_blocks c.self.inside.cells.values.items c.self.inside.blocks.items c.args.self.now.lists c.args.i (ap (λ (t : OperandLists). t.lists) c.self.view_is) c.requires.list in
    let tail = rw (← c.self.view_is) at c.requires.tail in
    let empty : (block_at c.self.inside.blocks.items c.args.i).len ≡ 0 = omega (
      arith,
      ap length
          (rw (← c.self.view_is) at c.requires.empty),
      length_at c.self.inside.cells.values.items c.self.inside.cells.owners.items c.self.inside.blocks.items c.self.inside.live c.self.invariant.0 c.args.i,
    ) in
    let more = length-append c.self.inside.cells.values.items c.args.list.now in
    let nb : Block = record { start = c.end-start.result; len = c.end.result - c.end-start.result } in
    rw (c.push_all.ensures.values, c.push_all.ensures.owners) (
      blocks_placed c.self.inside.cells.values.items c.self.inside.cells.owners.items c.self.inside.blocks.items c.self.inside.live c.self.invariant.0 c.args.i nb c.args.list.now
          (length c.args.list.now) (c.self.inside.live + length c.args.list.now) c.self.inside.cells.same h empty c.end-start.ensures
          (omega (arith, c.end-start.ensures, c.end.ensures, ap length c.push_all.ensures.values, more)) refl refl,
      (omega (arith, more, tail, c.self.invariant.1.0), omega (arith, length-set c.self.inside.blocks.items c.args.i nb, c.self.invariant.1.1)),
    )

pub returns-clause-lists : goal.returns-clause-lists
returns-clause-lists c =
    let h = in_blocks c.self.inside.cells.values.items c.self.inside.blocks.items c.args.self.now.lists c.args.i (ap (λ (t : OperandLists). t.lists) c.self.view_is) c.requires.list in
    rw (c.push_all.ensures.values, ← c.self.view_is)
    (list_placed c.self.inside.cells.values.items c.self.inside.cells.owners.items c.self.inside.blocks.items c.self.inside.live c.self.invariant.0 c.args.i _ c.args.list.now h c.end-start.ensures
    (omega (arith, c.end-start.ensures, c.end.ensures, ap length c.push_all.ensures.values, length-append c.self.inside.cells.values.items c.args.list.now)))
