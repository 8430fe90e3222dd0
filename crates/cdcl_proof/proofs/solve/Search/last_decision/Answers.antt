use Rattle.std.proofs.Common.{◌<◌, ◌+◌, length, IfSome, IfNone, IsNone, subst}
use Rattle.clause_learning.specs.Trail.{Path, entry_at, NoDecision}
use Rattle.cdcl_proof.proofs.solve.Search.last_decision.Goals as goal

pub returns-clause-decision : goal.returns-clause-decision
returns-clause-decision c =
    subst (λ (p : Path). IfSome c.last_decision.result (λ n. (n < length p.entries) × IsNone (entry_at p.entries n).reason × NoDecision p.entries (n + 1) (length p.entries))) c.trail.ensures c.last_decision.ensures.decision

pub returns-clause-none : goal.returns-clause-none
returns-clause-none c =
    subst (λ (p : Path). IfNone c.last_decision.result (NoDecision p.entries 0 (length p.entries))) c.trail.ensures c.last_decision.ensures.none
