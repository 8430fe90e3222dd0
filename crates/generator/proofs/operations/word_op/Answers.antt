use Rattle.std.proofs.Common.{ap}
use Rattle.hw_model.specs.TypeViews.{type_of}
use Rattle.hw_model.specs.declared.types.Ty.{Int}
use Rattle.hw_model.specs.KindViews.{kind_of}
use Rattle.ir_store.specs.OperationViews.{location_of}
use Rattle.generator.proofs.Built.{int_seen, word_seen}
use Rattle.generator.proofs.operations.word_op.Goals as goal

pub returns : goal.returns
returns c =
    word_seen c.of_type.result (kind_of c.args.kind) (type_of (Int 16)) c.args.operands.now (location_of c.start.result) (int_seen 16) (ap location_of c.start.ensures)
    c.of_type.ensures.parts c.of_type.ensures.operands
