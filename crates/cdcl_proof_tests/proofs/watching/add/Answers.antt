use Rattle.std.proofs.Common.{ℕ, List, ap, sym, ◌∙◌}
use Rattle.std.proofs.lemmas.Bool.{and_from}
use Rattle.resolution_proof.specs.declared.literal.Literal.{Literal}
use Rattle.resolution_proof.specs.Literal.{is_once}
use Rattle.resolution_proof.specs.Clause.{is_within}
use Rattle.cdcl_proof_tests.proofs.watching.add.Goals as goal

pub add_clause-requires : goal.add_clause-requires
add_clause-requires g c =
    let clause_is = ap (λ (r : List Literal). is_within c.args.watched.now.variables r) c.as_slice.ensures.literals in
    let variables_are = ap (λ (v : ℕ). is_within v c.as_slice.result.now) c.variables.ensures in
    let within = sym clause_is ∙ sym variables_are ∙ sym c.is_within_variables-fits.ensures ∙ c.if-fits.true in
    and_from (is_once c.in_ok-clause.clause) (is_within c.args.watched.now.variables c.in_ok-clause.clause) c.as_slice.ensures.once within
