use Rattle.std.proofs.Common.{sym, ap, ◌∙◌}
use Rattle.ir_store.specs.Uses.{use_at, use_times}
use Rattle.ir_store.specs.UsesLeft.{uses_left}
use Rattle.body_edits.proofs.LaterUses.{other_passed}
use Rattle.body_edits.proofs.operand_choices.may_stand_after.Goals as goal

pub loop-position-init : goal.loop-position-init
loop-position-init c = λ j later.
    sym (ap (λ s. use_times (use_at c.args.op.index j) (uses_left s)) c.into_iter-position-iterator.ensures.into_iter_gives ∙ c.uses-position-items.ensures.uses (use_at c.args.op.index j))

pub loop-position-preserved : goal.loop-position-preserved
loop-position-preserved c = λ j later.
    c.loop-position.invariant j later
    ∙ other_passed c.args.op.index c.args.at c.in-Some.position (uses_left c.loop-position.position-iterator) (uses_left c.next.new.self) c.in-Some.ensures.steps
    (sym c.is_after.ensures ∙ c.if-is_after.false) j later

pub returns : goal.returns
returns c = λ is j later. c.loop-position.invariant j later ∙ ap (use_times (use_at c.args.op.index j)) c.in-None.ensures.steps.0
