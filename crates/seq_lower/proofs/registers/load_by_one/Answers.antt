use Rattle.std.proofs.Common.{arith}
use Rattle.ir_store.proofs.Living.{first_of_all, rest_of_all}
use Rattle.seq_lower.specs.NewOps.{choice_values}
use Rattle.seq_lower.specs.Puts.{MayBeOperand}
use Rattle.seq_lower.proofs.Loading.{clocked_kind, own_and, loaded_by_one, smaller_room}
use Rattle.seq_lower.proofs.registers.load_by_one.Goals as goal

pub new_register-requires : goal.new_register-requires
new_register-requires c = clocked_kind c.args.body.now c.args.op c.op-found.result c.op-found.ensures c.requires.clocked

pub put_mux-chosen-requires-clause-operands : goal.put_mux-chosen-requires-clause-operands
put_mux-chosen-requires-clause-operands c = rest_of_all (MayBeOperand c.args.body.now c.args.op) c.args.clock (choice_values c.args.loaded) c.requires.values

pub put_register-requires-clause-operands : goal.put_register-requires-clause-operands
put_register-requires-clause-operands c =
    own_and c.args.body.now c.put_mux-chosen.new.body c.args.op c.put_mux-chosen.result _ 3 c.put_mux-chosen.ensures c.args.clock
    (first_of_all (MayBeOperand c.args.body.now c.args.op) c.args.clock (choice_values c.args.loaded) c.requires.values)

pub put_register-requires-clause-room : goal.put_register-requires-clause-room
put_register-requires-clause-room c = c.put_mux-chosen.ensures.room 1 2 (smaller_room c.args.body.now 2 5 (omega arith) (omega arith) c.requires.room)

pub returns-clause-loaded : goal.returns-clause-loaded
returns-clause-loaded c =
    loaded_by_one c.args.body.now c.put_mux-chosen.new.body c.args.op c.put_mux-chosen.result c.op-found.result c.op-found.ensures c.args.loaded c.in_ok-mux.mux c.in_ok-mux.ensures.parts
    c.put_mux-chosen.ensures c.args.clock (first_of_all (MayBeOperand c.args.body.now c.args.op) c.args.clock (choice_values c.args.loaded) c.requires.values)
    c.in_ok-register.register c.in_ok-register.ensures.parts c.put_register.new.body c.put_register.ensures
