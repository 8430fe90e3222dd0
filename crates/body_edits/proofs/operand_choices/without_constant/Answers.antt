use Rattle.std.proofs.Common.{Some, None, arith}
use Rattle.fold_laws.specs.Constants.{is_constant_where}
use Rattle.body_edits.specs.Sites.{ops_at}
use Rattle.body_edits.specs.Tests.{test_of}
use Rattle.body_edits.proofs.OperandChoosing.{one_goes}
use Rattle.body_edits.proofs.operand_choices.without_constant.Goals as goal

pub returns-in-Some-clause-operands : goal.returns-in-Some-clause-operands
returns-in-Some-clause-operands c =
    one_goes c.args.site.now.body.now c.args.site.now.op.operands.now (is_constant_where (test_of c.args.test) (ops_at c.args.site.now)) (Some c.in-Some.at) (omega (arith, c.if-site-lt2.false)) c.in-Some.ensures

pub returns-in-None-clause-operands : goal.returns-in-None-clause-operands
returns-in-None-clause-operands c =
    one_goes c.args.site.now.body.now c.args.site.now.op.operands.now (is_constant_where (test_of c.args.test) (ops_at c.args.site.now)) None (omega (arith, c.if-site-lt2.false)) c.in-None.ensures
