use Rattle.std.proofs.Common.{None, sym, ◌∙◌}
use Rattle.fold_laws.specs.Fold.{is_constant_in}
use Rattle.body_edits.specs.Sites.{ops_at}
use Rattle.body_edits.proofs.OperandChoosing.{one_moves, one_moves_last, none_moves_last}
use Rattle.body_edits.proofs.operand_choices.with_constant_last.Goals as goal

pub returns-then-has_other-clause-operands : goal.returns-then-has_other-clause-operands
returns-then-has_other-clause-operands c =
    one_moves_last c.args.site.now.body.now c.args.site.now.op.operands.now (is_constant_in (ops_at c.args.site.now)) c.in-Some.at c.in-Some.ensures
    (sym c.has_other.ensures ∙ c.if-has_other.true)

pub returns-else-has_other-clause-operands : goal.returns-else-has_other-clause-operands
returns-else-has_other-clause-operands c =
    none_moves_last c.args.site.now.body.now c.args.site.now.op.operands.now (is_constant_in (ops_at c.args.site.now)) c.in-Some.at c.in-Some.ensures
    (sym c.has_other.ensures ∙ c.if-has_other.false)

pub returns-in-None-clause-operands : goal.returns-in-None-clause-operands
returns-in-None-clause-operands c = one_moves c.args.site.now.body.now c.args.site.now.op.operands.now (is_constant_in (ops_at c.args.site.now)) None c.in-None.ensures
