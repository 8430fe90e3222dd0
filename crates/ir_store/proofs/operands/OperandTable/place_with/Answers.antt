use Rattle.std.proofs.Common.{◌≡◌, ◌+◌, ◌-◌, List, length, set, take, drop, ap, sym, ◌∙◌, arith, length-append, length-set, length-take, length-drop}
use Rattle.std.specs.Prelude.{insert}
use Rattle.std.proofs.lemmas.List.Edits.{length-insert}
use Rattle.ir_store.specs.declared.operation.Value.{Value}
use Rattle.ir_store.specs.declared.blocks.Block.{Block}
use Rattle.ir_store.specs.Blocks.{OperandLists, block_at, lists_in}
use Rattle.ir_store.proofs.BlockLists.{in_blocks, length_at, blocks_placed, list_placed}
use Rattle.ir_store.proofs.operands.OperandTable.place_with.Goals as goal

pub invariant_of-self : goal.invariant_of-self
invariant_of-self c =
    let h = in_blocks c.self.inside.cells.values.items c.self.inside.blocks.items c.args.self.now.lists c.args.i (ap (λ (t : OperandLists). t.lists) c.self.view_is) c.requires.list in
    let tail = rw (← c.self.view_is) at c.requires.tail in
    let within = rw (← c.self.view_is) at c.requires.within in
    let empty : (block_at c.self.inside.blocks.items c.args.i).len ≡ 0 = omega (
      arith,
      ap length
          (rw (← c.self.view_is) at c.requires.empty),
      length_at c.self.inside.cells.values.items c.self.inside.cells.owners.items c.self.inside.blocks.items c.self.inside.live c.self.invariant.0 c.args.i,
    ) in
    let kept : List Value = take (c.args.start + c.args.count - c.args.start) (drop c.args.start c.self.inside.spare.items) in
    let size : length kept ≡ c.args.count = omega (arith, length-take (c.args.start + c.args.count - c.args.start) (drop c.args.start c.self.inside.spare.items), length-drop c.args.start c.self.inside.spare.items, within) in
    let longer : length (insert kept c.args.at c.args.value) ≡ length kept + 1 = length-insert kept c.args.at c.args.value (omega (arith, size, c.requires.position)) in
    let more = length-append c.self.inside.cells.values.items (insert kept c.args.at c.args.value) in
    let values = rw c.deref.ensures.value at c.push_with.ensures.values in
    let owners = rw c.deref.ensures.value at c.push_with.ensures.owners in
    let nb : Block = record { start = c.end-first.result; len = c.end.result - c.end-first.result } in
    rw (values, owners) (
      blocks_placed c.self.inside.cells.values.items c.self.inside.cells.owners.items c.self.inside.blocks.items c.self.inside.live c.self.invariant.0 c.args.i nb
          (insert kept c.args.at c.args.value) (length kept + 1) (c.self.inside.live + (c.args.count + 1)) c.self.inside.cells.same h empty c.end-first.ensures
          (omega (arith, c.end-first.ensures, c.end.ensures, ap length values, more, longer)) (sym longer) (omega (arith, size)),
      (omega (arith, more, longer, size, tail, c.self.invariant.1.0), omega (arith, length-set c.self.inside.blocks.items c.args.i nb, c.self.invariant.1.1)),
    )

pub returns-clause-lists : goal.returns-clause-lists
returns-clause-lists c =
    let h = in_blocks c.self.inside.cells.values.items c.self.inside.blocks.items c.args.self.now.lists c.args.i (ap (λ (t : OperandLists). t.lists) c.self.view_is) c.requires.list in
    let kept : List Value = take (c.args.start + c.args.count - c.args.start) (drop c.args.start c.self.inside.spare.items) in
    let values = rw c.deref.ensures.value at c.push_with.ensures.values in
    let count : c.args.start + c.args.count - c.args.start ≡ c.args.count = omega arith in
    rw (values, ← c.self.view_is)
    (list_placed c.self.inside.cells.values.items c.self.inside.cells.owners.items c.self.inside.blocks.items c.self.inside.live c.self.invariant.0 c.args.i _ (insert kept c.args.at c.args.value) h c.end-first.ensures
    (omega (arith, c.end-first.ensures, c.end.ensures, ap length values, length-append c.self.inside.cells.values.items (insert kept c.args.at c.args.value)))
    ∙ ap (λ m. set (lists_in c.self.inside.cells.values.items c.self.inside.blocks.items) c.args.i (insert (take m (drop c.args.start c.self.inside.spare.items)) c.args.at c.args.value)) count)
