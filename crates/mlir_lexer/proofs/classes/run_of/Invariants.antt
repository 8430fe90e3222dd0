use Rattle.std.proofs.Common.{◌≡◌, ◌+◌, drop}
use Rattle.mlir_lexer.specs.Runs.{run}
use Rattle.mlir_lexer.proofs.classes.run_of.Given as goal

abbrev pub invariant-loop-i : goal.invariant-loop-i
invariant-loop-i g l = run g.C.Class.test (drop l.i l.bytes) + l.i ≡ run g.C.Class.test l.bytes
