use Rattle.std.proofs.Common.{refl, ap, ◌∙◌}
use Rattle.ir_store.specs.Bodies.{read_op}
use Rattle.body_edits.specs.Nests.{values_of}
use Rattle.body_edits.proofs.TakenIn.{inner_there, within_values, put_spliced, inner_stays, inner_unused, taken_in}
use Rattle.body_edits.proofs.splices.take_in.Goals as goal

pub op-requires-2 : goal.op-requires-2
op-requires-2 c = inner_there c.args.body.now c.args.op c.args.inner c.args.number c.requires.fit c.requires.live c.requires.inner

pub spliced_values-requires : goal.spliced_values-requires
spliced_values-requires c = within_values c.args.body.now c.args.op c.args.inner c.args.number c.requires.fit c.requires.live c.requires.inner (read_op c.args.op c.op.result) c.op.ensures

pub erase-requires-clause-live : goal.erase-requires-clause-live
erase-requires-clause-live c =
    inner_stays c.args.body.now c.args.op c.args.inner c.args.number c.requires.fit c.requires.live c.requires.inner c.set_operands.new.self
    (put_spliced c.args.body.now c.args.op c.args.inner c.args.number c.requires.fit c.requires.live c.requires.inner c.set_operands.new.self c.op.result.operands.now c.op-2.result.operands.now c.as_slice.result.now (read_op c.args.op c.op.result)
    c.op.ensures refl (ap values_of c.op-2.ensures) (c.as_slice.ensures ∙ c.in_ok-operands.ensures) c.in_ok-set_operands.ensures.ok)

pub erase-requires-clause-unused : goal.erase-requires-clause-unused
erase-requires-clause-unused c =
    inner_unused c.args.body.now c.args.op c.args.inner c.args.number c.requires.fit c.requires.live c.requires.inner c.set_operands.new.self
    (put_spliced c.args.body.now c.args.op c.args.inner c.args.number c.requires.fit c.requires.live c.requires.inner c.set_operands.new.self c.op.result.operands.now c.op-2.result.operands.now c.as_slice.result.now (read_op c.args.op c.op.result)
    c.op.ensures refl (ap values_of c.op-2.ensures) (c.as_slice.ensures ∙ c.in_ok-operands.ensures) c.in_ok-set_operands.ensures.ok)

pub returns-clause-taken : goal.returns-clause-taken
returns-clause-taken c =
    taken_in c.args.body.now c.args.op c.args.inner c.args.number c.requires.fit c.requires.live c.requires.inner c.set_operands.new.self
    (put_spliced c.args.body.now c.args.op c.args.inner c.args.number c.requires.fit c.requires.live c.requires.inner c.set_operands.new.self c.op.result.operands.now c.op-2.result.operands.now c.as_slice.result.now (read_op c.args.op c.op.result)
    c.op.ensures refl (ap values_of c.op-2.ensures) (c.as_slice.ensures ∙ c.in_ok-operands.ensures) c.in_ok-set_operands.ensures.ok)
    c.erase.new.self c.erase.ensures.ops
