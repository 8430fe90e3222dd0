use Rattle.std.proofs.Common.{arith, rules}
use Rattle.wiring.proofs.Members.{In-map}
use Rattle.hw_interpreter.specs.Registers.{slot_of}
use Rattle.hw_interpreter.proofs.Counts.{member_at}
use Rattle.hw_interpreter.proofs.machine.risen_content.Goals as goal

pub returns-in_err-width-clause-refuses : goal.returns-in_err-width-clause-refuses
returns-in_err-width-clause-refuses c is counted earlier all =
    let item = c.slot-item.result in
    let within = member_at c.args.slots.now c.loop-slot.slot-index item (omega (arith, c.loop-slot-test.true)) c.slot-item.is in
    c.in_err-width.ensures.refuses (counted (slot_of item) (In-map slot_of item c.args.slots.now within))

pub returns-in_err-held-clause-refuses : goal.returns-in_err-held-clause-refuses
returns-in_err-held-clause-refuses c is counted earlier all =
    let item = c.slot-item.result in
    let within = member_at c.args.slots.now c.loop-slot.slot-index item (omega (arith, c.loop-slot-test.true)) c.slot-item.is in
    c.in_err-held.ensures.refuses (search rules) (earlier (slot_of item) (In-map slot_of item c.args.slots.now within))
    (all (slot_of item) (In-map slot_of item c.args.slots.now within))
