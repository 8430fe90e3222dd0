use Rattle.std.proofs.Common.{ap, inl, arith}
use Rattle.clause_learning.specs.Watching.{Watching}
use Rattle.cdcl_proof.proofs.solve.Search.new.Goals as goal

pub returns-clause-waiting : goal.returns-clause-waiting
returns-clause-waiting c v low high =
    let n = ap (λ (w : Watching). w.variables) c.in_ok-new.ensures in
    let m = c.variables-variables.ensures in
    inl (c.in_ok-new-2.ensures.all v low (omega (arith, n, m, high)))
