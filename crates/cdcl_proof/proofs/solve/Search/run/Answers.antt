use Rattle.std.proofs.Common.{◌≤◌, ◌^◌, ◌∙◌, IfOk, subst}
use Rattle.resolution_proof.specs.Formula.{Formula}
use Rattle.cdcl_proof.specs.Answer.{Answers, IsDecided}
use Rattle.cdcl_proof.proofs.solve.Search.run.Goals as goal

pub returns-then-len-budget-clause-answers : goal.returns-then-len-budget-clause-answers
returns-then-len-budget-clause-answers c =
    let formula = c.in_ok-resolve_conflict-in-Some-last_decision.ensures.formula ∙ c.in_ok-conflict.ensures.formula ∙ c.loop-search.invariant.2 in
    subst (λ (f : Formula). IfOk c.give_up.result (Answers f c.args.budget)) formula c.give_up.ensures.answers

pub returns-then-len-budget-clause-decided : goal.returns-then-len-budget-clause-decided
returns-then-len-budget-clause-decided c =
    let formula = c.in_ok-resolve_conflict-in-Some-last_decision.ensures.formula ∙ c.in_ok-conflict.ensures.formula ∙ c.loop-search.invariant.2 in
    subst (λ (f : Formula). 3 ^ f.variables ≤ c.args.budget → IfOk c.give_up.result IsDecided) formula c.give_up.ensures.decided

pub refutation-requires-clause-decisions : goal.refutation-requires-clause-decisions
refutation-requires-clause-decisions c = c.in-None-last_decision.ensures.none
