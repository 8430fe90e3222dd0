use Rattle.std.proofs.Common.{length, ◌-◌}
use Rattle.mlir_lexer.proofs.Left.{IsFurther}
use Rattle.mlir_lexer.proofs.tokens.Tokens.next.Given as goal

abbrev pub invariant-loop-first : goal.invariant-loop-first
invariant-loop-first l = IsFurther l.fn.self l.self

abbrev pub decreases-loop-first : goal.decreases-loop-first
decreases-loop-first l = length l.self.source - l.self.at
