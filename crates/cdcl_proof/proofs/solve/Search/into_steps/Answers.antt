use Rattle.std.proofs.Common.{◌++◌, List, length, drop, ap, ◌∙◌, sym, subst}
use Rattle.resolution_proof.specs.declared.log.Step.{Step}
use Rattle.resolution_proof.specs.Replay.{learnt_clauses}
use Rattle.cdcl_proof.specs.Store.{IsKept}
use Rattle.cdcl_proof.proofs.Keeping.{logged_steps, logged_length, logged_clauses}
use Rattle.cdcl_proof.proofs.solve.Search.into_steps.Goals as goal

pub returns-clause-kept : goal.returns-clause-kept
returns-clause-kept c =
    let steps = logged_steps c.args.self.cnf.now c.args.self.watched.clauses c.args.self.chains.items c.requires.logged
    (length c.clauses.result.now) c.in_ok-learnt_clauses.learnt_clauses.items c.in_ok-steps.steps.items (ap length c.clauses.ensures.clauses)
    (c.in_ok-learnt_clauses.ensures.tail ∙ ap (drop (length c.clauses.result.now)) c.into_clauses-clauses.ensures) c.in_ok-steps.ensures in
    subst (λ (ss : List Step). IsKept c.args.self.cnf.now ss) (sym steps) c.requires.logged.kept

pub returns-clause-len : goal.returns-clause-len
returns-clause-len c =
    let steps = logged_steps c.args.self.cnf.now c.args.self.watched.clauses c.args.self.chains.items c.requires.logged
    (length c.clauses.result.now) c.in_ok-learnt_clauses.learnt_clauses.items c.in_ok-steps.steps.items (ap length c.clauses.ensures.clauses)
    (c.in_ok-learnt_clauses.ensures.tail ∙ ap (drop (length c.clauses.result.now)) c.into_clauses-clauses.ensures) c.in_ok-steps.ensures in
    ap length steps ∙ logged_length c.args.self.cnf.now c.args.self.watched.clauses c.args.self.chains.items c.requires.logged

pub returns-clause-clauses : goal.returns-clause-clauses
returns-clause-clauses c =
    let steps = logged_steps c.args.self.cnf.now c.args.self.watched.clauses c.args.self.chains.items c.requires.logged
    (length c.clauses.result.now) c.in_ok-learnt_clauses.learnt_clauses.items c.in_ok-steps.steps.items (ap length c.clauses.ensures.clauses)
    (c.in_ok-learnt_clauses.ensures.tail ∙ ap (drop (length c.clauses.result.now)) c.into_clauses-clauses.ensures) c.in_ok-steps.ensures in
    logged_clauses c.args.self.cnf.now c.args.self.watched.clauses c.args.self.chains.items c.requires.logged ∙ ap (λ (ss : List Step). c.args.self.cnf.now.clauses ++ learnt_clauses ss) (sym steps)
