use Rattle.std.proofs.Common.{length, slice_get, subst}
use Rattle.body_edits.specs.OperandEdits.{IsWithin, operands_there}
use Rattle.body_edits.specs.Views.{body_ops, position_in}
use Rattle.body_edits.proofs.OperandEditing.{has_operand}
use Rattle.body_edits.proofs.operands.edit_operands.Goals as goal

pub drop_one-requires-clause-within : goal.drop_one-requires-clause-within
drop_one-requires-clause-within c =
    has_operand c.args.body.now c.args.op c.in-Drop.at c.requires.live
    (subst (IsWithin (length (operands_there (slice_get (body_ops c.args.body.now) (position_in c.args.body.now c.args.op))))) c.in-Drop.is c.requires.within)

pub drop_both-requires-clause-within : goal.drop_both-requires-clause-within
drop_both-requires-clause-within c =
    has_operand c.args.body.now c.args.op c.in-DropBoth.second c.requires.live
    (subst (IsWithin (length (operands_there (slice_get (body_ops c.args.body.now) (position_in c.args.body.now c.args.op))))) c.in-DropBoth.is c.requires.within).1

pub move_last-requires-clause-within : goal.move_last-requires-clause-within
move_last-requires-clause-within c =
    has_operand c.args.body.now c.args.op c.in-MoveLast.at c.requires.live
    (subst (IsWithin (length (operands_there (slice_get (body_ops c.args.body.now) (position_in c.args.body.now c.args.op))))) c.in-MoveLast.is c.requires.within)
