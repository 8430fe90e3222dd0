use Rattle.std.proofs.lemmas.Result.{on_ok_weaker}
use Rattle.ir_store.specs.declared.operation.Value.TheVariants.{Result}
use Rattle.seq_lower.proofs.RegisterOperands.{register_may, four_may, six_may, enable_lowered, both_lowered}
use Rattle.seq_lower.proofs.registers.lower_register.Goals as goal

pub load_by_two-requires-clause-ready : goal.load_by_two-requires-clause-ready
load_by_two-requires-clause-ready c = (register_may c.args.body.now c.args.op c.requires.fit c.requires.live c.args.register c.requires.register).ready

pub load_by_two-requires-clause-values : goal.load_by_two-requires-clause-values
load_by_two-requires-clause-values c =
    let may = register_may c.args.body.now c.args.op c.requires.fit c.requires.live c.args.register c.requires.register in
    six_may c.args.body.now c.args.op c.args.register.clock c.in-Some-reset.reset.signal c.in-Some-reset.reset.value c.in-Some.enable c.args.register.next (Result c.args.op 0)
    may.clock (may.reset c.in-Some-reset.reset c.in-Some-reset.is).0 (may.reset c.in-Some-reset.reset c.in-Some-reset.is).1 (may.enable c.in-Some.enable c.in-Some.is) may.next may.held

pub load_by_one-requires-clause-ready : goal.load_by_one-requires-clause-ready
load_by_one-requires-clause-ready c = (register_may c.args.body.now c.args.op c.requires.fit c.requires.live c.args.register c.requires.register).ready

pub load_by_one-requires-clause-values : goal.load_by_one-requires-clause-values
load_by_one-requires-clause-values c =
    let may = register_may c.args.body.now c.args.op c.requires.fit c.requires.live c.args.register c.requires.register in
    four_may c.args.body.now c.args.op c.args.register.clock c.in-Some.enable c.args.register.next (Result c.args.op 0)
    may.clock (may.enable c.in-Some.enable c.in-Some.is) may.next may.held

pub load_by_one-requires-in-Some-reset-2-clause-ready : goal.load_by_one-requires-in-Some-reset-2-clause-ready
load_by_one-requires-in-Some-reset-2-clause-ready c = (register_may c.args.body.now c.args.op c.requires.fit c.requires.live c.args.register c.requires.register).ready

pub load_by_one-requires-in-Some-reset-2-clause-values : goal.load_by_one-requires-in-Some-reset-2-clause-values
load_by_one-requires-in-Some-reset-2-clause-values c =
    let may = register_may c.args.body.now c.args.op c.requires.fit c.requires.live c.args.register c.requires.register in
    four_may c.args.body.now c.args.op c.args.register.clock c.in-Some-reset-2.reset.signal c.in-Some-reset-2.reset.value c.args.register.next
    may.clock (may.reset c.in-Some-reset-2.reset c.in-Some-reset-2.is).0 (may.reset c.in-Some-reset-2.reset c.in-Some-reset-2.is).1 may.next

pub returns-in-Some-reset-clause-lowered : goal.returns-in-Some-reset-clause-lowered
returns-in-Some-reset-clause-lowered c =
    on_ok_weaker c.load_by_two.result
    (both_lowered c.args.body.now c.load_by_two.new.body c.args.op c.args.register c.requires.register c.in-Some.enable c.in-Some-reset.reset c.in-Some.is c.in-Some-reset.is)
    c.load_by_two.ensures.loaded

pub returns-in-None-reset-clause-lowered : goal.returns-in-None-reset-clause-lowered
returns-in-None-reset-clause-lowered c =
    on_ok_weaker c.load_by_one.result
    (enable_lowered c.args.body.now c.load_by_one.new.body c.args.op c.args.register c.requires.register c.in-Some.enable c.in-Some.is c.in-None-reset.is)
    c.load_by_one.ensures.loaded
