use Rattle.std.proofs.Common.{length}
use Rattle.ir_store.specs.Designs.{design_of}
use Rattle.mlir_reader.proofs.Files.{Filling}
use Rattle.mlir_reader.proofs.file_text.modules_text.Given as goal

abbrev pub invariant-loop-ends : goal.invariant-loop-ends
invariant-loop-ends l = Filling l.ends (design_of l.fn.design) l.fn.reader (design_of l.design) l.reader

abbrev pub decreases-loop-ends : goal.decreases-loop-ends
decreases-loop-ends l = length l.reader
