use Rattle.mlir_reader.specs.Held.{HoldsSame}
use Rattle.mlir_reader.proofs.draft.Draft.settle.Given as goal

abbrev pub invariant-loop : goal.invariant-loop
invariant-loop l = HoldsSame l.fn.self l.self
