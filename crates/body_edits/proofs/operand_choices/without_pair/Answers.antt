use Rattle.std.proofs.Common.{Some, None, arith}
use Rattle.body_edits.proofs.OperandChoosing.{both_go, both_within}
use Rattle.body_edits.proofs.operand_choices.without_pair.Goals as goal

pub returns-in-Some-clause-operands : goal.returns-in-Some-clause-operands
returns-in-Some-clause-operands c =
    both_go c.args.site.now.body.now c.args.site.now.op.operands.now c.requires.readable.live (Some c.in-Some.repeat) (omega (arith, c.if-site-lt3.false)) c.in-Some.ensures

pub returns-in-None-clause-operands : goal.returns-in-None-clause-operands
returns-in-None-clause-operands c = both_go c.args.site.now.body.now c.args.site.now.op.operands.now c.requires.readable.live None (omega (arith, c.if-site-lt3.false)) c.in-None.ensures

pub returns-in-Some-clause-within : goal.returns-in-Some-clause-within
returns-in-Some-clause-within c = both_within c.args.site.now.body.now c.args.site.now.op.operands.now (Some c.in-Some.repeat) c.in-Some.ensures
