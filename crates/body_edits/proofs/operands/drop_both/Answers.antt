use Rattle.std.proofs.Common.{◌<◌, length, subst, arith}
use Rattle.std.specs.Prelude.{remove}
use Rattle.std.proofs.lemmas.List.Edits.{length-remove}
use Rattle.body_edits.specs.declared.operands.OperandEdit.TheVariants.{DropBoth}
use Rattle.body_edits.specs.OperandEdits.{IsOperandEdit}
use Rattle.body_edits.specs.Views.{position_in}
use Rattle.body_edits.proofs.OperandEditing.{op_stays, operand_stays, both_dropped}
use Rattle.body_edits.proofs.operands.drop_both.Goals as goal

pub drop_operand-requires-2-clause-live : goal.drop_operand-requires-2-clause-live
drop_operand-requires-2-clause-live c =
    op_stays c.args.body.now c.drop_operand.new.self c.args.op (λ xs. remove xs c.in_ok-second.second) c.drop_operand.ensures.ops c.requires.live

pub drop_operand-requires-2-clause-position : goal.drop_operand-requires-2-clause-position
drop_operand-requires-2-clause-position c =
    operand_stays c.args.body.now c.drop_operand.new.self c.args.op (λ xs. remove xs c.in_ok-second.second) c.in_ok-first.first c.args.second c.drop_operand.ensures.ops
    (λ xs there. let within : c.in_ok-second.second < length xs = omega (arith, there, c.in_ok-second.ensures) in
    omega (arith, within, c.in_ok-first.ensures, c.in_ok-second.ensures, c.requires.order, length-remove xs c.in_ok-second.second within))
    c.requires.within

pub returns-clause-ok : goal.returns-clause-ok
returns-clause-ok c =
    subst (λ i. IsOperandEdit (DropBoth i c.args.second) c.args.body.now c.drop_operand-2.new.self (position_in c.args.body.now c.args.op)) c.in_ok-first.ensures
    (subst (λ j. IsOperandEdit (DropBoth c.in_ok-first.first j) c.args.body.now c.drop_operand-2.new.self (position_in c.args.body.now c.args.op)) c.in_ok-second.ensures
    (both_dropped c.args.body.now c.drop_operand.new.self c.drop_operand-2.new.self c.args.op c.in_ok-first.first c.in_ok-second.second c.requires.live c.drop_operand.ensures.ops c.drop_operand-2.ensures.ops))
