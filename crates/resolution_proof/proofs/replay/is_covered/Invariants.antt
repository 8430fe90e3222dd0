use Rattle.std.proofs.Common.{◌≡◌, ◌++◌, length}
use Rattle.resolution_proof.specs.Clause.{is_subset}
use Rattle.resolution_proof.specs.Replay.{learnt_clauses, chain_end}
use Rattle.resolution_proof.proofs.Chains.{covers_hints}
use Rattle.resolution_proof.proofs.replay.is_covered.Given as goal

abbrev pub invariant-loop-first : goal.invariant-loop-first
invariant-loop-first l = is_subset (chain_end (l.given ++ learnt_clauses l.steps) l.start l.hints) l.clause ≡ covers_hints (l.given ++ learnt_clauses l.steps) l.clause l.rest

abbrev pub decreases-loop-first : goal.decreases-loop-first
decreases-loop-first l = length l.rest
