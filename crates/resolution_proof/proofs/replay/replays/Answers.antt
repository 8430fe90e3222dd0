use Rattle.std.proofs.Common.{◌≡◌, ◌++◌, ◌≤◌, true, List, take, length, ap, ◌∙◌, subst}
use Rattle.std.proofs.lemmas.List.{take_all, drop_all}
use Rattle.std.specs.List.{list_all}
use Rattle.resolution_proof.specs.declared.log.Step.{Step}
use Rattle.resolution_proof.specs.Literal.{is_once}
use Rattle.resolution_proof.specs.Replay.{learnt_clauses, replays_from}
use Rattle.resolution_proof.proofs.Laws.{clauses_once, follows}
use Rattle.resolution_proof.proofs.replay.replays.Goals as goal

pub returns-clause-follows : goal.returns-clause-follows
returns-clause-follows c =
    let log = c.args.log.now in
    let reads_default : length c.args.log.now ≤ c.loop-i.i = rw c.as_slice-steps.ensures at c.loop-i-test.false in
    let more = subst (λ (ss : List Step). list_all is_once (learnt_clauses ss) ≡ true) (take_all c.loop-i.i log reads_default) c.loop-i.invariant.1 in
    let yes = c.loop-i.invariant.0 ∙ ap (replays_from (c.args.cnf.now.clauses ++ learnt_clauses (take c.loop-i.i log))) (drop_all c.loop-i.i log reads_default) in
    λ _. follows c.args.cnf.now log (clauses_once c.args.cnf.now.variables c.args.cnf.now.clauses c.clauses-given.ensures.within) more yes
