use Rattle.std.proofs.Common.{arith}
use Rattle.seq_lower.specs.NewOps.{choice_values}
use Rattle.seq_lower.proofs.Loading.{clocked_kind, own_and, two_and_own, loaded_by_two, smaller_room, clock_and_reset}
use Rattle.seq_lower.proofs.registers.load_by_two.Goals as goal

pub new_register-requires : goal.new_register-requires
new_register-requires c = clocked_kind c.args.body.now c.args.op c.op-found.result c.op-found.ensures c.requires.clocked

pub put_mux-first-requires-clause-operands : goal.put_mux-first-requires-clause-operands
put_mux-first-requires-clause-operands c = (clock_and_reset c.args.body.now c.args.op c.args.clock c.args.reset.signal c.args.reset.value (choice_values c.args.loaded) c.requires.values).others

pub put_mux-second-requires-clause-operands : goal.put_mux-second-requires-clause-operands
put_mux-second-requires-clause-operands c =
    let may = clock_and_reset c.args.body.now c.args.op c.args.clock c.args.reset.signal c.args.reset.value (choice_values c.args.loaded) c.requires.values in
    two_and_own c.args.body.now c.put_mux-first.new.body c.args.op c.put_mux-first.result _ 3 c.put_mux-first.ensures c.args.reset.signal c.args.reset.value may.signal may.value

pub put_mux-second-requires-clause-room : goal.put_mux-second-requires-clause-room
put_mux-second-requires-clause-room c = c.put_mux-first.ensures.room 1 3 (smaller_room c.args.body.now 2 6 (omega arith) (omega arith) c.requires.room)

pub put_register-requires-clause-operands : goal.put_register-requires-clause-operands
put_register-requires-clause-operands c =
    let may = clock_and_reset c.args.body.now c.args.op c.args.clock c.args.reset.signal c.args.reset.value (choice_values c.args.loaded) c.requires.values in
    own_and c.put_mux-first.new.body c.put_mux-second.new.body c.args.op c.put_mux-second.result _ 3 c.put_mux-second.ensures c.args.clock (c.put_mux-first.ensures.may c.args.clock may.clock)

pub put_register-requires-clause-room : goal.put_register-requires-clause-room
put_register-requires-clause-room c = c.put_mux-second.ensures.room 1 2 (c.put_mux-first.ensures.room 2 5 c.requires.room)

pub returns-clause-loaded : goal.returns-clause-loaded
returns-clause-loaded c =
    let may = clock_and_reset c.args.body.now c.args.op c.args.clock c.args.reset.signal c.args.reset.value (choice_values c.args.loaded) c.requires.values in
    loaded_by_two c.args.body.now c.put_mux-first.new.body c.args.op c.put_mux-first.result c.op-found.result c.op-found.ensures c.args.loaded c.in_ok-mux.mux c.in_ok-mux.ensures.parts
    c.put_mux-first.ensures c.put_mux-second.new.body c.put_mux-second.result c.args.reset may.signal may.value c.in_ok-reset_mux.reset_mux c.in_ok-reset_mux.ensures.parts
    c.put_mux-second.ensures c.args.clock may.clock c.in_ok-register.register c.in_ok-register.ensures.parts c.put_register.new.body c.put_register.ensures
