use Rattle.ir_store.specs.Bodies.{ops_of}
use Rattle.mlir_reader.proofs.Drafting.{numbered_more}
use Rattle.mlir_reader.proofs.draft.put_in.Goals as goal

pub returns-clause-numbered : goal.returns-clause-numbered
returns-clause-numbered c numbered =
    let added = c.in_ok-add_op.ensures in (
      numbered_more (ops_of c.args.body.now) (ops_of c.add_op.new.self) _ added.ok numbered.0 (added.next numbered.1),
      added.gaps numbered.1,
    )
