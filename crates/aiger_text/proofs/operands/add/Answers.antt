use Rattle.ir_store.specs.Bodies.{ops_of}
use Rattle.ir_store.specs.BodyOps.{as_new}
use Rattle.aiger_text.proofs.NumberedBodies.{numbered_more}
use Rattle.aiger_text.proofs.operands.add.Goals as goal

pub returns-clause-numbered : goal.returns-clause-numbered
returns-clause-numbered c = record {
  ids = numbered_more (ops_of c.args.body.now) (ops_of c.add_op.new.self) (as_new c.in_ok-id.id c.args.op) c.in_ok-id.ensures.ok c.requires.numbered.ids
      (c.in_ok-id.ensures.next c.requires.numbered.gaps);
  gaps = c.in_ok-id.ensures.gaps c.requires.numbered.gaps;
}
