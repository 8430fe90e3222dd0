use Rattle.std.proofs.Common.{length, List, ◌≡◌}
use Rattle.mlir_reader.specs.Drafts.{Drafts}
use Rattle.mlir_reader.specs.Meanings.{meanings_of}
use Rattle.mlir_operations.specs.OperationText.{OperationText}
use Rattle.mlir_reader.specs.Resolving.{ends_with_output}
use Rattle.mlir_reader.proofs.Bodies.{Standing}
use Rattle.mlir_reader.proofs.body_text.operations_text.Given as goal

abbrev pub invariant-loop-reader : goal.invariant-loop-reader
invariant-loop-reader l = record {
  got : List OperationText;
  standing : Standing (λ (o : OperationText). o) l.fn.reader got l.reader;
  drafts : Drafts (meanings_of l.fn.names) got l.draft;
  ends : l.ends ≡ ends_with_output got;
}

abbrev pub decreases-loop-reader : goal.decreases-loop-reader
decreases-loop-reader l = length l.reader
