use Rattle.std.proofs.Common.{rules, ◌≡◌, ◌+◌, ◌<◌, ◌^◌, ℕ, List, length, IsTrue, sym, subst, ap, arith}
use Rattle.resolution_proof.specs.declared.log.Step.{Step}
use Rattle.lrat_text.specs.Verified.{lrat, Verified}
use Rattle.lrat_text.specs.Written.{dimacs_text, lrat_text}
use Rattle.lrat_text.proofs.WrittenFormulas.{formula_is_read}
use Rattle.lrat_text.proofs.WrittenLogs.{written_is_proof, written_has_empty}
use Rattle.lrat_text.proofs.write.write_lrat.Goals as goal

pub returns-clause-proof : goal.returns-clause-proof
unfolding lrat_text
returns-clause-proof c replays regular =
    let text : c.push_steps.new.text ≡ lrat_text c.args.cnf.now c.args.log.now = search rules in
    let room : length c.args.cnf.now.clauses + length c.args.log.now < 2 ^ 64 =
    omega (arith, c.clause_count.ensures.count, c.clause_count.ensures.small, c.push_steps.ensures.short, ap (λ (ss : List Step). length ss) c.as_slice.ensures) in
    subst (λ (t : List ℕ). IsTrue (lrat c.args.cnf.now t)) (sym text) (written_is_proof c.args.cnf.now c.args.log.now c.clause_count.ensures.within c.clause_count.ensures.few room replays regular)

pub returns-clause-verified : goal.returns-clause-verified
unfolding lrat_text
returns-clause-verified c refutes =
    let text : c.push_steps.new.text ≡ lrat_text c.args.cnf.now c.args.log.now = search rules in
    let few : length c.args.cnf.now.clauses < 2 ^ 64 = omega (arith, c.clause_count.ensures.count, c.clause_count.ensures.small) in
    let room : length c.args.cnf.now.clauses + length c.args.log.now < 2 ^ 64 =
    omega (arith, c.clause_count.ensures.count, c.clause_count.ensures.small, c.push_steps.ensures.short, ap (λ (ss : List Step). length ss) c.as_slice.ensures) in
    let f = c.args.cnf.now in
    let log = c.args.log.now in
    let replays = refutes.proof.replays in
    subst (λ (t : List ℕ). Verified (dimacs_text f) t) (sym text)
    (record {
      read = f;
      text = formula_is_read f c.clause_count.ensures.within c.clause_count.ensures.few few;
      lrat = written_is_proof f log c.clause_count.ensures.within c.clause_count.ensures.few room replays refutes.proof.regular;
      empty = written_has_empty f log c.clause_count.ensures.within c.clause_count.ensures.few room replays refutes.ends;
    })
