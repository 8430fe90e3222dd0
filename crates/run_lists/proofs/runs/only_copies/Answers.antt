use Rattle.std.proofs.Common.{◌∙◌, ◌*◌, ◌∷◌, ◌++◌, [], ap, sym, refl, subst}
use Rattle.run_lists.specs.Runs.{AreRunsOf, many, expanded}
use Rattle.run_lists.proofs.RunLists.{many_only, product_some}
use Rattle.run_lists.proofs.runs.only_copies.Goals as goal

pub returns : goal.returns
returns c =
    subst (AreRunsOf (many c.args.count (expanded (c.args.only ∷ [])))) (sym (c.in_ok-push.ensures.items ∙ ap (λ xs. xs ++ record { number = c.args.only.number; count = c.in-Some.all } ∷ []) c.new-runs.ensures.items))
    (record {
      numbers = many_only c.args.count c.args.only (record { number = c.args.only.number; count = c.in-Some.all }) refl (c.in-Some.ensures.1 ∙ ap (λ n. c.args.only.count * n) c.from.ensures);
      apart = (
        product_some c.args.only.count c.args.count c.in-Some.all c.requires.run c.requires.some (c.in-Some.ensures.1 ∙ ap (λ n. c.args.only.count * n) c.from.ensures),
        tt,
        tt,
      );
    })
