use Rattle.std.proofs.Common.{◌≡◌, [], map, arith, rules, ap, sym, ◌∙◌}
use Rattle.std.proofs.lemmas.List.{nil_from_length}
use Rattle.hw_model.specs.KindViews.{literal_of, literals_of}
use Rattle.hw_model.specs.declared.kinds.Literal.{the_lemmas}
use Rattle.stored_form.specs.Constants.{kept_literals}
use Rattle.mlir_reader.proofs.Constants.{kept_of, kept_one, kept_each}
use Rattle.mlir_reader.proofs.Moving.{moved_step, moved_end}
use Rattle.mlir_reader.proofs.kinds.+keep_literal.Goals as goal

pub kept_literals-loop-literal-preserved : goal.kept_literals-loop-literal-preserved
kept_literals-loop-literal-preserved t c =
    let one = c.in_ok-kept_literal.ensures ∙ sym (kept_one c.in-Some.literal) in
    moved_step literal_of kept_of c.loop-literal.literals.items c.push.new.self.items c.in_ok-kept_literal.field-0 c.in-Some.literal
    c.loop-literal.literal-iterator.rest.items c.next.new.self.rest.items (map kept_of c.args.list.literals.items)
    c.in_ok-push.ensures.items one c.in-Some.ensures.steps.0 c.loop-literal.invariant

pub kept_literals-returns : goal.kept_literals-returns
kept_literals-returns t c =
    let none : c.loop-literal.literal-iterator.rest.items ≡ [] = nil_from_length c.loop-literal.literal-iterator.rest.items (omega (arith, c.in-None.ensures.steps.0)) in
    let all = moved_end literal_of kept_of c.loop-literal.literals.items c.loop-literal.literal-iterator.rest.items (map kept_of c.args.list.literals.items) none c.loop-literal.invariant in
    let kept : literals_of (map literal_of c.loop-literal.literals.items) ≡ kept_literals (literals_of (map literal_of c.args.list.literals.items)) =
    ap literals_of all ∙ kept_each c.args.list.literals.items in
    search (rules, the_lemmas, kept)
