use Rattle.std.proofs.Common.{sym, ◌∙◌}
use Rattle.std.proofs.lemmas.Result.{on_ok_weaker}
use Rattle.seq_lower.proofs.RegisterOperands.{fit_same, register_same, lowered_same, none_of_both, read_register, read_other}
use Rattle.seq_lower.proofs.registers.lower_op.Goals as goal

pub returns-then-is_plain-clause-lowered : goal.returns-then-is_plain-clause-lowered
returns-then-is_plain-clause-lowered c =
    none_of_both c.args.body.now c.args.op c.in-Some.register
    (read_register c.args.body.now c.args.op c.op-found.result c.op-found.ensures c.in-Some.register c.clocked_register.result c.in-Some.is c.clocked_register.ensures)
    (sym c.is_plain.ensures ∙ c.if-is_plain.true)

pub lower_register-requires-clause-fit : goal.lower_register-requires-clause-fit
lower_register-requires-clause-fit c = fit_same c.args.body.now c.make_room.new.body c.make_room.ensures.stay c.requires.fit

pub lower_register-requires-clause-register : goal.lower_register-requires-clause-register
lower_register-requires-clause-register c =
    register_same c.args.body.now c.make_room.new.body c.make_room.ensures.stay c.args.op c.in-Some.register
    (read_register c.args.body.now c.args.op c.op-found.result c.op-found.ensures c.in-Some.register c.clocked_register.result c.in-Some.is c.clocked_register.ensures)

pub returns-in_ok-make_room-in-Some-clause-lowered : goal.returns-in_ok-make_room-in-Some-clause-lowered
returns-in_ok-make_room-in-Some-clause-lowered c =
    on_ok_weaker c.lower_register.result (lowered_same c.args.body.now c.make_room.new.body c.make_room.ensures.stay c.args.op c.lower_register.new.body) c.lower_register.ensures.lowered

pub returns-in-None-clause-lowered : goal.returns-in-None-clause-lowered
returns-in-None-clause-lowered c =
    read_other c.args.body.now c.args.op c.op-found.result c.op-found.ensures c.clocked_register.result c.in-None.is c.clocked_register.ensures
