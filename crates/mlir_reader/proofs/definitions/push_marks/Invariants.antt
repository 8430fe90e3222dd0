use Rattle.std.proofs.Common.{◌≡◌, ◌++◌, replicate}
use Rattle.mlir_reader.proofs.definitions.push_marks.Given as goal

abbrev pub invariant-loop : goal.invariant-loop
invariant-loop l = l.found.items ≡ l.fn.found.items ++ replicate l.counter l.again
