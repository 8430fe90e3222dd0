use Rattle.ir_store.specs.Designs.{design_of}
use Rattle.miter_blast.proofs.Compared.{pair_refused}
use Rattle.miter_blast.proofs.comparing.miter.Goals as goal

pub returns-in-Err-clause-refused : goal.returns-in-Err-clause-refused
returns-in-Err-clause-refused c =
    pair_refused (design_of c.args.left.now.design) c.args.a.now (design_of c.args.right.now.design) c.args.b.now c.in-Err.fail c.in-Err.ensures.refused

pub early_refusal-requires : goal.early_refusal-requires
early_refusal-requires c = (c.args.a.now, c.args.b.now, c.in-Ok.ensures.ok)

pub compared-requires-clause-pair : goal.compared-requires-clause-pair
compared-requires-clause-pair c = (c.args.a.now, c.args.b.now, c.in-Ok.ensures.ok)
