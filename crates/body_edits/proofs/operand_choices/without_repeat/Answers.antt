use Rattle.std.proofs.Common.{Some, None}
use Rattle.body_edits.proofs.OperandChoosing.{repeated_goes, both_within}
use Rattle.body_edits.proofs.operand_choices.without_repeat.Goals as goal

pub returns-in-Some-clause-operands : goal.returns-in-Some-clause-operands
returns-in-Some-clause-operands c = repeated_goes c.args.site.now.body.now c.args.site.now.op.operands.now c.requires.readable.live (Some c.in-Some.repeat) c.in-Some.ensures

pub returns-in-None-clause-operands : goal.returns-in-None-clause-operands
returns-in-None-clause-operands c = repeated_goes c.args.site.now.body.now c.args.site.now.op.operands.now c.requires.readable.live None c.in-None.ensures

pub returns-in-Some-clause-within : goal.returns-in-Some-clause-within
returns-in-Some-clause-within c = (both_within c.args.site.now.body.now c.args.site.now.op.operands.now (Some c.in-Some.repeat) c.in-Some.ensures).1
