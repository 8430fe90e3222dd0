use Rattle.std.proofs.Common.{Result, Ok, Err, OnErr}
use Rattle.seq_lower.proofs.Sweeping.{begin, has_op, goes_on, fewer_left, leads_same, all_lowered}
use Rattle.seq_lower.proofs.registers.lower_regs.Goals as goal

-- what holds holds of an error
on_err : {T E : Type 0} (r : Result T E) {P : Type 0} → P → OnErr r P
on_err (Ok x) p = tt
on_err (Err e) p = p

pub loop-at-init : goal.loop-at-init
loop-at-init c = begin c.args.body.now c.first_op-at.result c.requires c.first_op-at.ensures

pub next_op-next-requires : goal.next_op-next-requires
next_op-next-requires c = has_op c.args.body.now c.loop-at.body c.in-Some.op (rw c.in-Some.is at c.loop-at.invariant)

pub lower_op-requires-clause-live : goal.lower_op-requires-clause-live
lower_op-requires-clause-live c = has_op c.args.body.now c.loop-at.body c.in-Some.op (rw c.in-Some.is at c.loop-at.invariant)

pub returns-in_err-lower_op-clause-partly : goal.returns-in_err-lower_op-clause-partly
returns-in_err-lower_op-clause-partly c =
    on_err c.from_residual.result (leads_same c.args.body.now c.loop-at.body c.in-Some.op (rw c.in-Some.is at c.loop-at.invariant) c.lower_op.new.body c.in_err-lower_op.ensures.kept)

pub loop-at-smaller : goal.loop-at-smaller
loop-at-smaller c =
    rw c.in-Some.is (fewer_left c.args.body.now c.loop-at.body c.in-Some.op (rw c.in-Some.is at c.loop-at.invariant) c.lower_op.new.body c.next_op-next.result c.next_op-next.ensures
    c.in_ok-lower_op.ensures.lowered)

pub loop-at-preserved : goal.loop-at-preserved
loop-at-preserved c =
    goes_on c.args.body.now c.loop-at.body c.in-Some.op (rw c.in-Some.is at c.loop-at.invariant) c.lower_op.new.body c.next_op-next.result c.next_op-next.ensures
    c.in_ok-lower_op.ensures.lowered

pub returns-clause-lowered : goal.returns-clause-lowered
returns-clause-lowered c = all_lowered c.args.body.now c.loop-at.body c.loop-at.at c.loop-at.invariant c.in_default.is
