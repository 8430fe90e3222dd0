use Rattle.std.proofs.Common.{slice_set, arith}
use Rattle.std.proofs.lemmas.List.{length-set}
use Rattle.ir_store.specs.declared.operation.Value.TheVariants.{Result}
use Rattle.body_edits.proofs.OperandEditing.{op_stays, operand_stays}
use Rattle.comb_fold.proofs.PutJoined.{still_put, operand_put, put_joined}
use Rattle.comb_fold.proofs.joined.put_joined.Goals as goal

pub set_operand-requires-clause-live : goal.set_operand-requires-clause-live
set_operand-requires-clause-live c =
    still_put c.args.body.now c.add_op.new.self c.args.op c.in_ok-id.id c.args.new c.requires.fit c.requires.live c.requires.none c.in_ok-id.ensures.fresh c.in_ok-id.ensures.ok

pub set_operand-requires-clause-position : goal.set_operand-requires-clause-position
set_operand-requires-clause-position c =
    operand_put c.args.body.now c.add_op.new.self c.args.op c.in_ok-id.id c.args.new c.requires.fit c.requires.live c.requires.none c.in_ok-id.ensures.fresh c.in_ok-id.ensures.ok
    c.args.second c.requires.within

pub drop_operand-requires-clause-live : goal.drop_operand-requires-clause-live
drop_operand-requires-clause-live c =
    op_stays c.add_op.new.self c.set_operand.new.self c.args.op (λ xs. slice_set xs c.args.second (Result c.in_ok-id.id 0)) c.set_operand.ensures.ops
    (still_put c.args.body.now c.add_op.new.self c.args.op c.in_ok-id.id c.args.new c.requires.fit c.requires.live c.requires.none c.in_ok-id.ensures.fresh c.in_ok-id.ensures.ok)

pub drop_operand-requires-clause-position : goal.drop_operand-requires-clause-position
drop_operand-requires-clause-position c =
    operand_stays c.add_op.new.self c.set_operand.new.self c.args.op (λ xs. slice_set xs c.args.second (Result c.in_ok-id.id 0)) c.args.first c.args.second c.set_operand.ensures.ops
    (λ xs there. omega (arith, there, c.requires.order, length-set xs c.args.second (Result c.in_ok-id.id 0)))
    (operand_put c.args.body.now c.add_op.new.self c.args.op c.in_ok-id.id c.args.new c.requires.fit c.requires.live c.requires.none c.in_ok-id.ensures.fresh c.in_ok-id.ensures.ok
    c.args.second c.requires.within)

pub returns-clause-put : goal.returns-clause-put
returns-clause-put c =
    put_joined c.args.body.now c.add_op.new.self c.args.op c.in_ok-id.id c.args.new c.requires.fit c.requires.live c.requires.none c.in_ok-id.ensures.fresh c.in_ok-id.ensures.ok
    c.set_operand.new.self c.drop_operand.new.self c.args.first c.args.second c.set_operand.ensures.ops c.drop_operand.ensures.ops
