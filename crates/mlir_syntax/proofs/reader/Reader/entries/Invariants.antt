use Rattle.std.proofs.Common.{length}
use Rattle.mlir_syntax.specs.AttributeHeads.{keys_of}
use Rattle.mlir_syntax.proofs.Entries.{Gathering}
use Rattle.mlir_syntax.proofs.reader.Reader.entries.Given as goal

abbrev pub invariant-loop-entry : goal.invariant-loop-entry
invariant-loop-entry l = Gathering l.op (keys_of l.strings) l.fn.self l.entries.items l.keys.keys l.self

abbrev pub decreases-loop-entry : goal.decreases-loop-entry
decreases-loop-entry l = length l.self
