use Rattle.std.proofs.Common.{◌≡◌, ℕ, List, true, length, drop, ◌∙◌, ap, subst}
use Rattle.resolution_proof.specs.declared.literal.Literal.{Literal}
use Rattle.resolution_proof.specs.Literal.{holds}
use Rattle.resolution_proof.specs.Formula.{is_true}
use Rattle.resolution_proof.specs.Replay.{learnt_clauses}
use Rattle.resolution_proof.specs.Fresh.{is_closed}
use Rattle.clause_learning.specs.Trail.{Path, literals, IsTotal}
use Rattle.cdcl_proof.specs.Store.{steps_of}
use Rattle.cdcl_proof.proofs.Keeping.{logged_clauses}
use Rattle.cdcl_proof.proofs.Satisfying.{closed_satisfies}
use Rattle.cdcl_proof.proofs.solve.Search.into_assignment.Goals as goal

pub returns : goal.returns
returns c =
    let s = c.requires.searching in
    let total = subst (λ (n : ℕ). IsTotal n (literals c.args.self.watched.entries)) s.variables c.requires.total in
    let f = c.args.self.cnf.now in
    let steps = steps_of c.args.self.chains.items (drop (length f.clauses) c.args.self.watched.clauses) in
    let closed = subst (λ (cs : List (List Literal)). is_closed (literals c.args.self.watched.entries) cs ≡ true) (logged_clauses f c.args.self.watched.clauses c.args.self.chains.items s.logged) c.requires.closed in
    let len = c.in_ok-values.ensures.len ∙ ap (λ (p : Path). p.variables) c.trail.ensures ∙ s.variables in
    let agree = subst (λ (p : Path). (l : Literal) → holds (literals p.entries) l ≡ true → is_true c.in_ok-values.field-0.items l ≡ true) c.trail.ensures c.in_ok-values.ensures.agree in
    rw c.from_vec.ensures (closed_satisfies f (learnt_clauses steps) (literals c.args.self.watched.entries) c.in_ok-values.field-0.items s.logged.kept.clauses closed total len agree)
