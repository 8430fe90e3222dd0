use Rattle.std.proofs.Common.{◌≡◌, [], length, sym, ◌∙◌, ap, arith}
use Rattle.ir_store.specs.Blocks.{OperandLists}
use Rattle.ir_store.proofs.BlockLists.{lists_count}
use Rattle.linked_lists.proofs.IdLemmas.{put_at_set, below_unless}
use Rattle.ir_store.proofs.operands.OperandTable.open.Goals as goal

pub returns-else-i-len-clause-lists : goal.returns-else-i-len-clause-lists
returns-else-i-len-clause-lists c =
    let n : length c.args.self.now.lists ≡ length c.self.inside.blocks.items = ap (λ (t : OperandLists). length t.lists) (sym c.self.view_is) ∙ lists_count c.self.inside.cells.values.items c.self.inside.blocks.items in
    let h = below_unless c.args.i (length c.args.self.now.lists) c.requires.position (λ e. c.if-i-len.false (omega (arith, e, n, c.len.ensures, c.self.inside.blocks.ok.0))) in
    c.clear.ensures.lists ∙ sym (put_at_set c.args.i [] c.args.self.now.lists h)
