use Rattle.std.proofs.Common.{length}
use Rattle.mlir_operations.specs.ElementText.{input_text}
use Rattle.mlir_operations.specs.ElementHeads.{joined_of}
use Rattle.mlir_syntax.proofs.Lists.{Gathering}
use Rattle.mlir_operations.proofs.instance_text.some_inputs.Given as goal

abbrev pub invariant-loop-input : goal.invariant-loop-input
invariant-loop-input l = Gathering joined_of l.op (input_text l.op) l.fn.reader l.inputs.items l.reader

abbrev pub decreases-loop-input : goal.decreases-loop-input
decreases-loop-input l = length l.reader
