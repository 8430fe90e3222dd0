use Rattle.std.proofs.Common.{◌+◌, sym, ap, ◌∙◌}
use Rattle.std.specs.Prelude.{position}
use Rattle.std.proofs.lemmas.List.{take_rest}
use Rattle.ir_store.specs.Bodies.{ops_of, read_op}
use Rattle.ir_store.specs.BodyOps.{same_value}
use Rattle.body_edits.proofs.LaterUses.{none_after}
use Rattle.body_edits.proofs.operand_choices.next_same.Goals as goal

pub returns-then-may_stand_after : goal.returns-then-may_stand_after
returns-then-may_stand_after c =
    c.first_same.ensures ∙ ap (position (same_value c.args.value)) (take_rest c.args.site.now.op.operands.now (c.args.at + 1))

pub returns-else-may_stand_after : goal.returns-else-may_stand_after
returns-else-may_stand_after c =
    sym (none_after c.args.value c.args.id.index c.args.at (ops_of c.args.site.now.body.now) (read_op c.args.id c.args.site.now.op) c.requires.own
    (c.may_stand_after.ensures c.if-may_stand_after.false))
