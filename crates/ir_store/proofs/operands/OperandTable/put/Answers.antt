use Rattle.std.proofs.Common.{[]}
use Rattle.linked_lists.proofs.IdLemmas.{set-put_at}
use Rattle.ir_store.proofs.operands.OperandTable.put.Goals as goal

pub returns-clause-lists : goal.returns-clause-lists
returns-clause-lists c = rw (c.place.ensures.lists, c.make_tail.ensures.lists, c.open.ensures.lists) (set-put_at c.args.i [] c.args.list.now c.args.self.now.lists c.requires.position)
