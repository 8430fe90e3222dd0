use Rattle.std.proofs.Common.{◌≡◌, [], length, take, drop, get_or, set-set}
use Rattle.std.specs.Prelude.{insert}
use Rattle.ir_store.proofs.operands.OperandTable.insert.Goals as goal

pub returns-clause-lists : goal.returns-clause-lists
returns-clause-lists c =
    let kept : take (length c.get-count.result.now) (drop c.lift-start.result c.lift-start.new.self.spare) ≡ get_or c.args.self.now.lists c.args.i [] = rw c.get-count.ensures.list c.lift-start.ensures.kept in
    rw (c.place_with.ensures.lists, c.lift-start.ensures.lists, kept) (set-set c.args.self.now.lists c.args.i [] (insert (get_or c.args.self.now.lists c.args.i []) c.args.at c.args.value))
