use Rattle.std.proofs.Common.{rules, ◌≡◌, ◌<◌, ◌^◌, ℕ, List, length, Ok, sym, subst, arith}
use Rattle.lrat_text.specs.Dimacs.{dimacs}
use Rattle.lrat_text.specs.Written.{dimacs_text}
use Rattle.lrat_text.proofs.WrittenFormulas.{formula_is_read}
use Rattle.lrat_text.proofs.write.write_dimacs.Goals as goal

pub returns-clause-read : goal.returns-clause-read
unfolding dimacs_text
returns-clause-read c =
    let text : c.push_clauses.new.text ≡ dimacs_text c.args.cnf.now = search rules in
    let room : length c.args.cnf.now.clauses < 2 ^ 64 = omega (arith, c.clause_count.ensures.count, c.clause_count.ensures.small) in
    subst (λ (t : List ℕ). dimacs t ≡ Ok c.args.cnf.now) (sym text) (formula_is_read c.args.cnf.now c.clause_count.ensures.within c.clause_count.ensures.few room)
