use Rattle.std.proofs.Common.{◌≡◌, ◌++◌, take, drop, true}
use Rattle.std.specs.List.{list_all}
use Rattle.resolution_proof.specs.Literal.{is_once}
use Rattle.resolution_proof.specs.Replay.{learnt_clauses, replay, replays_from}
use Rattle.resolution_proof.proofs.replay.replays.Given as goal

abbrev pub invariant-loop-i : goal.invariant-loop-i
invariant-loop-i l = (replay l.cnf l.log ≡ replays_from (l.cnf.clauses ++ learnt_clauses (take l.i l.log)) (drop l.i l.log)) × (list_all is_once (learnt_clauses (take l.i l.log)) ≡ true)
