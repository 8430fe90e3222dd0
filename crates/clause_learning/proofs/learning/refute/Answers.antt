use Rattle.clause_learning.proofs.LearntClauses.{chain_refutes}
use Rattle.clause_learning.proofs.learning.refute.Goals as goal

pub returns-clause-derived : goal.returns-clause-derived
returns-clause-derived c =
    rw c.from_vec.ensures (chain_refutes c.args.clauses.now c.args.trail.now.entries c.in_ok-hints.hints.items c.resolve_down.new.seen c.in_ok-hints.ensures.resolving c.in_ok-hints.ensures.count)
