use Rattle.std.proofs.Common.{◌+◌, [], map, drop}
use Rattle.mlir_reader.specs.Drafts.{found_count}
use Rattle.mlir_reader.specs.Meanings.{meanings_of}
use Rattle.mlir_operations.specs.Views.{operand_of}
use Rattle.mlir_operations.specs.declared.syntax.OperandName.{OperandName}
use Rattle.mlir_reader.proofs.Unfound.{unfound_here, found_here}
use Rattle.mlir_reader.proofs.draft.first_unfound.Goals as goal

pub returns-then-is_none : goal.returns-then-is_none
returns-then-is_none c =
    let o : OperandName = record { name = record { ref_ptr = (0, 0); now = [] }; number = 0 } in
    λ _. unfound_here (meanings_of c.args.names.now) c.args.operands.now c.loop-index.index o c.loop-index-test.true c.find.result c.is_none.result c.find.ensures c.is_none.ensures
    (c.args.from + found_count (meanings_of c.args.names.now) (drop c.args.from (map operand_of c.args.operands.now))) c.if-is_none.true c.loop-index.invariant

pub loop-index-preserved : goal.loop-index-preserved
loop-index-preserved c =
    let o : OperandName = record { name = record { ref_ptr = (0, 0); now = [] }; number = 0 } in
    found_here (meanings_of c.args.names.now) c.args.operands.now c.loop-index.index o c.loop-index-test.true c.find.result c.is_none.result c.find.ensures c.is_none.ensures
    (c.args.from + found_count (meanings_of c.args.names.now) (drop c.args.from (map operand_of c.args.operands.now))) c.if-is_none.false c.loop-index.invariant
