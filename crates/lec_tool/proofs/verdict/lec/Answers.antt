use Rattle.ir_store.specs.Designs.{design_of}
use Rattle.lec_tool.proofs.Deciding.{verdict_alone}
use Rattle.lec_tool.proofs.verdict.lec.Goals as goal

pub returns-in-Ok-clause-verdict : goal.returns-in-Ok-clause-verdict
returns-in-Ok-clause-verdict c =
    verdict_alone (design_of c.args.left.now.design) c.args.a.now (design_of c.args.right.now.design) c.args.b.now c.args.budget
    c.in-Ok.decision.comparison.formula c.in-Ok.decision.verdict c.in-Ok.ensures.decision
