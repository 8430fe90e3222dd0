use Rattle.std.proofs.Common.{◌≡◌, ◌<◌, length, subst, arith}
use Rattle.std.specs.Prelude.{remove, IfSome}
use Rattle.ir_store.specs.Bodies.{ops_of, read_op}
use Rattle.ir_store.specs.BodyOps.{BodyOp, operands_at}
use Rattle.body_edits.proofs.OperandEditing.{longer, op_stays, operand_stays, one_moved}
use Rattle.body_edits.proofs.operands.move_last.Goals as goal

pub drop_operand-requires-clause-live : goal.drop_operand-requires-clause-live
drop_operand-requires-clause-live c = op_stays c.args.body.now c.insert_operand.new.self c.args.op _ c.in_ok-insert_operand.ensures.ok c.requires.live

pub drop_operand-requires-clause-position : goal.drop_operand-requires-clause-position
drop_operand-requires-clause-position c =
    operand_stays c.args.body.now c.insert_operand.new.self c.args.op _ c.in_ok-at.at c.args.at c.in_ok-insert_operand.ensures.ok
    (λ xs there. longer xs _ _ c.in_ok-at.at (omega (arith, there, c.in_ok-at.ensures))) c.requires.within

pub returns-clause-ok : goal.returns-clause-ok
returns-clause-ok c =
    one_moved c.args.body.now c.insert_operand.new.self c.drop_operand.new.self c.args.op (read_op c.args.op c.op.result) c.args.at c.in_ok-end.end _ c.requires.live c.op.ensures c.in_ok-end.ensures
    (subst (λ x. IfSome x (λ (o : BodyOp). c.args.at < length o.operands)) c.op.ensures c.requires.within)
    c.in_ok-insert_operand.ensures.ok
    (subst (λ k. ops_of c.drop_operand.new.self ≡ operands_at c.args.op.index (λ xs. remove xs k) (ops_of c.insert_operand.new.self)) c.in_ok-at.ensures c.drop_operand.ensures.ops)
