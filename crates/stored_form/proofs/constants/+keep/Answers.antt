use Rattle.std.proofs.Common.{◌≡◌, map}
use Rattle.hw_model.specs.Kinds.{Literal}
use Rattle.hw_model.specs.KindViews.{literal_of, literals_of}
use Rattle.stored_form.specs.Bytes.{Each}
use Rattle.stored_form.specs.Constants.{kept_literal, kept_literals}
use Rattle.stored_form.proofs.Kept.{each_kept, all_kept}
use Rattle.stored_form.proofs.Lists.{not_each, each_all, same_fact}
use Rattle.stored_form.proofs.constants.+keep.Goals as goal

pub are_kept-returns-then-not-is_kept_literal : goal.are_kept-returns-then-not-is_kept_literal
are_kept-returns-then-not-is_kept_literal t c =
    let ls = map literal_of c.args.literals.now in
    let P = λ (l : Literal). kept_literal l ≡ l in
    same_fact (Each P ls) (kept_literals (literals_of ls) ≡ literals_of ls) _
    (not_each P literal_of c.args.literals.now c.loop-literal.literal-index c.literal-item.result c.is_kept_literal.result c.loop-literal-test.true c.literal-item.is c.is_kept_literal.ensures
    c.if-not-is_kept_literal.true)
    (all_kept ls) (each_kept ls)

pub are_kept-returns : goal.are_kept-returns
are_kept-returns t c =
    let ls = map literal_of c.args.literals.now in
    let P = λ (l : Literal). kept_literal l ≡ l in
    same_fact (Each P ls) (kept_literals (literals_of ls) ≡ literals_of ls) _
    (each_all P literal_of c.args.literals.now c.loop-literal.literal-index c.loop-literal-test.false c.loop-literal.invariant)
    (all_kept ls) (each_kept ls)
