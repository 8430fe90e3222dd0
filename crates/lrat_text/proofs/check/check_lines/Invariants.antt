use Rattle.std.proofs.Common.{length}
use Rattle.lrat_text.specs.ProofLine.{proof_lines}
use Rattle.lrat_text.specs.Checking.{start}
use Rattle.lrat_text.specs.Stored.{state_of}
use Rattle.lrat_text.proofs.Walking.{IsChecking}
use Rattle.lrat_text.proofs.check.check_lines.Given as goal

abbrev pub invariant-loop-rest : goal.invariant-loop-rest
invariant-loop-rest l = IsChecking l.cnf.variables (state_of l.progress) l.line (proof_lines l.rest) (start l.cnf) (proof_lines l.proof) l.marks (length l.rest)

abbrev pub decreases-loop-rest : goal.decreases-loop-rest
decreases-loop-rest l = length l.rest
