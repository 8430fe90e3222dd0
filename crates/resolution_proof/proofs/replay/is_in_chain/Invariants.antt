use Rattle.std.proofs.Common.{◌≡◌, ◌++◌, length}
use Rattle.resolution_proof.specs.Literal.{holds}
use Rattle.resolution_proof.specs.Replay.{learnt_clauses, chain_end}
use Rattle.resolution_proof.proofs.replay.is_in_chain.Given as goal

abbrev pub invariant-loop-last : goal.invariant-loop-last
invariant-loop-last l = holds (chain_end (l.given ++ learnt_clauses l.steps) l.start l.hints) l.literal ≡ holds (chain_end (l.given ++ learnt_clauses l.steps) l.start l.rest) l.literal

abbrev pub decreases-loop-last : goal.decreases-loop-last
decreases-loop-last l = length l.rest
