use Rattle.std.proofs.Common.{List, true, ◌≡◌, subst}
use Rattle.resolution_proof.specs.declared.literal.Literal.{Literal}
use Rattle.resolution_proof.specs.Replay.{derives}
use Rattle.resolution_proof.specs.Regular.{is_regular}
use Rattle.cdcl_proof.proofs.Keeping.{kept_refutes}
use Rattle.cdcl_proof.proofs.solve.Search.into_refutation.Goals as goal

pub returns : goal.returns
returns c =
    let e = c.in_ok-steps.ensures in
    let derived = subst (λ (k : List (List Literal)). derives k c.args.step.hints c.args.step.clause ≡ true) e.clauses c.requires.derived in
    let regular = subst (λ (k : List (List Literal)). is_regular k c.args.step.hints ≡ true) e.clauses c.requires.regular in
    rw (c.from_vec.ensures, c.in_ok-push.ensures.items) (kept_refutes c.args.self.cnf.now c.in_ok-steps.steps.items c.args.step e.kept derived regular c.requires.empty)
