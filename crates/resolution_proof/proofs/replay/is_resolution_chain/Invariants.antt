use Rattle.std.proofs.Common.{◌≡◌, ◌++◌, take, drop}
use Rattle.resolution_proof.specs.Replay.{learnt_clauses, chain_end, is_chain}
use Rattle.resolution_proof.proofs.replay.is_resolution_chain.Given as goal

abbrev pub invariant-loop-i : goal.invariant-loop-i
invariant-loop-i l = is_chain (l.given ++ learnt_clauses l.steps) l.start l.hints ≡ is_chain (l.given ++ learnt_clauses l.steps) (chain_end (l.given ++ learnt_clauses l.steps) l.start (take l.i l.hints)) (drop l.i l.hints)
