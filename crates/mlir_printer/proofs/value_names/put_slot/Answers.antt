use Rattle.std.proofs.Common.{arith}
use Rattle.mlir_printer.proofs.names.Placing.{position_last}
use Rattle.mlir_printer.proofs.value_names.put_slot.Goals as goal

pub returns-in_ok-push-2 : goal.returns-in_ok-push-2
returns-in_ok-push-2 c =
    position_last c.args.slots.now.items c.loop.slots.items c.push-else-position-len.new.self.items c.args.position c.args.slot
    (omega (arith, c.loop.invariant.count, c.loop-test.false, c.if-position-len.false, c.len.ensures, c.loop.slots.ok.0)) c.in_ok-push-2.ensures.items c.loop.invariant.same
