use Rattle.std.proofs.Common.{◌∙◌, ◌∷◌, ◌++◌, [], refl, sym, ap, subst, arith}
use Rattle.run_lists.specs.Runs.{expanded, AreApart}
use Rattle.run_lists.proofs.RunLists.{expanded_longer, expanded_append, apart_longer, apart_more}
use Rattle.run_lists.proofs.runs.push_run.Goals as goal

pub returns-in_ok-push-in-Some-clause-numbers : goal.returns-in_ok-push-in-Some-clause-numbers
returns-in_ok-push-in-Some-clause-numbers c =
    ap expanded c.in_ok-push-in-Some.ensures.items
    ∙ expanded_longer c.pop.new.self.items c.in-Some.last c.args.run c.if-last-run.true (record { number = c.in-Some.last.number; count = c.in-Some-checked_add.count }) refl c.in-Some-checked_add.ensures.1
    ∙ ap (λ xs. expanded xs ++ expanded (c.args.run ∷ [])) (sym c.in-Some.ensures.items)

pub returns-in_ok-push-in-Some-clause-apart : goal.returns-in_ok-push-in-Some-clause-apart
returns-in_ok-push-in-Some-clause-apart c =
    subst AreApart (sym c.in_ok-push-in-Some.ensures.items)
    (apart_longer c.pop.new.self.items c.in-Some.last (subst AreApart c.in-Some.ensures.items c.requires.apart) (record { number = c.in-Some.last.number; count = c.in-Some-checked_add.count }) refl
    (omega (arith, c.requires.some, c.in-Some-checked_add.ensures.1)))

pub returns-in_ok-push-in-Some-2-2-clause-numbers : goal.returns-in_ok-push-in-Some-2-2-clause-numbers
returns-in_ok-push-in-Some-2-2-clause-numbers c =
    ap expanded c.in_ok-push-in-Some-2-2.ensures.items
    ∙ expanded_append c.push-in-Some-2.new.self.items (c.args.run ∷ [])
    ∙ ap (λ xs. expanded xs ++ expanded (c.args.run ∷ [])) (c.in_ok-push-in-Some-2.ensures.items ∙ sym c.in-Some.ensures.items)

pub returns-in_ok-push-in-Some-2-2-clause-apart : goal.returns-in_ok-push-in-Some-2-2-clause-apart
returns-in_ok-push-in-Some-2-2-clause-apart c =
    subst AreApart (sym (c.in_ok-push-in-Some-2-2.ensures.items ∙ ap (λ xs. xs ++ c.args.run ∷ []) c.in_ok-push-in-Some-2.ensures.items))
    (apart_more c.pop.new.self.items c.in-Some.last (subst AreApart c.in-Some.ensures.items c.requires.apart) c.args.run c.if-last-run.false c.requires.some)
