use Rattle.std.proofs.Common.{◌≡◌, length, ap, refl, ◌∙◌, arith, length-append}
use Rattle.ir_store.specs.declared.blocks.Block.{Block}
use Rattle.ir_store.specs.Blocks.{block_at, block_list}
use Rattle.ir_store.proofs.BlockLists.{block_length}
use Rattle.ir_store.proofs.Refilling.{refilled_none, refilled_more, refilled_all, refilled_lists, refilled_room}
use Rattle.ir_store.proofs.blocks.refill_blocks.Goals as goal

pub loop-i-init : goal.loop-i-init
loop-i-init c = (refilled_none c.args.from.now c.args.blocks.now c.args.cells.now.values.items c.args.cells.now.owners.items c.requires.empty, omega (arith, ap length c.requires.empty))

pub push_all-requires : goal.push_all-requires
push_all-requires c =
    let here : block_at c.loop-i.blocks c.loop-i.i ≡ block_at c.args.blocks.now c.loop-i.i = c.loop-i.invariant.0.rest c.loop-i.i (omega arith) in
    let size : length c.block_values.result.now ≡ (block_at c.args.blocks.now c.loop-i.i).len =
    ap length (c.block_values.ensures ∙ ap (block_list c.args.from.now) here) ∙ block_length c.args.from.now (block_at c.args.blocks.now c.loop-i.i) (c.requires.within c.loop-i.i) in
    omega (arith, size, ap (λ (b : Block). b.len) here, refilled_room c.args.from.now c.args.blocks.now c.loop-i.i c.loop-i.cells.values.items c.loop-i.cells.owners.items c.loop-i.blocks c.loop-i.invariant.0, c.loop-i.invariant.1, c.requires.room)

pub loop-i-preserved : goal.loop-i-preserved
loop-i-preserved c =
    let b : Block = record { start = c.end-start.result; len = (block_at c.loop-i.blocks c.loop-i.i).len } in
    let more = length-append c.loop-i.cells.values.items c.block_values.result.now in
    let next = refilled_more c.args.from.now c.args.blocks.now c.loop-i.i c.loop-i.cells.values.items c.loop-i.cells.owners.items c.loop-i.blocks c.loop-i.invariant.0 b c.block_values.result.now (length c.block_values.result.now)
    (omega (arith, c.loop-i-test.true)) (c.requires.within c.loop-i.i) c.loop-i.cells.same c.block_values.ensures c.end-start.ensures refl refl in
    (rw (c.push_all.ensures.values, c.push_all.ensures.owners) next, omega (arith, c.push_all.ensures.room, ap length c.push_all.ensures.values, more, c.loop-i.invariant.1))

pub returns-clause-lists : goal.returns-clause-lists
returns-clause-lists c = refilled_lists c.args.from.now c.args.blocks.now c.loop-i.i c.loop-i.cells.values.items c.loop-i.cells.owners.items c.loop-i.blocks c.loop-i.invariant.0 (omega (arith, c.loop-i-test.false))

pub returns-clause-blocks : goal.returns-clause-blocks
returns-clause-blocks c = refilled_all c.args.from.now c.args.blocks.now c.loop-i.i c.loop-i.cells.values.items c.loop-i.cells.owners.items c.loop-i.blocks c.loop-i.invariant.0 (omega (arith, c.loop-i-test.false))
