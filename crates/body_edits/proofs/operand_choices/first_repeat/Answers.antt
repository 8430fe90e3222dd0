use Rattle.std.proofs.Common.{sym, ◌∙◌}
use Rattle.ir_store.specs.BodyOps.{same_value}
use Rattle.body_edits.proofs.Repeats.{repeat_step, repeat_found}
use Rattle.body_edits.proofs.operand_choices.first_repeat.Goals as goal

pub returns-in-Some : goal.returns-in-Some
returns-in-Some c =
    sym (repeat_found same_value c.args.site.now.op.operands.now c.loop-first.first c.in-Some.between _ c.loop-first-test.true (sym c.in-Some.ensures) c.loop-first.invariant)

pub loop-first-preserved : goal.loop-first-preserved
loop-first-preserved c =
    repeat_step same_value c.args.site.now.op.operands.now c.loop-first.first _ c.loop-first-test.true (sym c.next_same.ensures ∙ c.in_default.is) c.loop-first.invariant
