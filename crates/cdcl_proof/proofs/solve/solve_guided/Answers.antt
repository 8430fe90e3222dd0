use Rattle.std.proofs.Common.{◌≤◌, ◌^◌, ◌∙◌, subst}
use Rattle.resolution_proof.specs.Formula.{Formula}
use Rattle.cdcl_proof.specs.Answer.{Answers, IsDecided}
use Rattle.cdcl_proof.proofs.solve.solve_guided.Goals as goal

pub returns-clause-answers : goal.returns-clause-answers
returns-clause-answers g c =
    subst (λ (f : Formula). Answers f c.args.budget c.in_ok-answer.answer) (c.in_ok-swept.ensures.formula ∙ c.in_ok-search.ensures.formula) c.in_ok-answer.ensures.answers

pub returns-clause-decided : goal.returns-clause-decided
returns-clause-decided g c =
    subst (λ (f : Formula). 3 ^ f.variables ≤ c.args.budget → IsDecided c.in_ok-answer.answer) (c.in_ok-swept.ensures.formula ∙ c.in_ok-search.ensures.formula) c.in_ok-answer.ensures.decided
