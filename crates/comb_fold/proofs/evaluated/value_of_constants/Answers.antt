use Rattle.std.proofs.Common.{◌≡◌, Some, None, sym, ap, ◌∙◌}
use Rattle.comb_fold.specs.Evaluable.{bits_of_type}
use Rattle.body_edits.specs.Sites.{ops_at, kind_at, refs_at, first_type_of}
use Rattle.comb_fold.proofs.EvaluatedOps.{int_typed, has_width, words_suit}
use Rattle.comb_fold.proofs.evaluated.value_of_constants.Goals as goal

pub op_value-requires-clause-least : goal.op_value-requires-clause-least
op_value-requires-clause-least c =
    (has_width (ops_at c.args.site.now) (kind_at c.args.site.now) (refs_at c.args.site.now) (first_type_of c.args.site.now) c.in-Some.width c.requires.evaluable
    (int_typed (first_type_of c.args.site.now) c.in-Some.width c.in-Some.ensures)).some

pub op_value-requires-clause-most : goal.op_value-requires-clause-most
op_value-requires-clause-most c =
    (has_width (ops_at c.args.site.now) (kind_at c.args.site.now) (refs_at c.args.site.now) (first_type_of c.args.site.now) c.in-Some.width c.requires.evaluable
    (int_typed (first_type_of c.args.site.now) c.in-Some.width c.in-Some.ensures)).few

pub op_value-requires-clause-words : goal.op_value-requires-clause-words
op_value-requires-clause-words c =
    words_suit (ops_at c.args.site.now) (kind_at c.args.site.now) (refs_at c.args.site.now) (first_type_of c.args.site.now) c.in-Some.width c.requires.evaluable
    (int_typed (first_type_of c.args.site.now) c.in-Some.width c.in-Some.ensures) c.as_slice.result.now
    (c.in_ok-words-in-Some.ensures ∙ ap (λ ws. Some ws) (sym c.as_slice.ensures.value))

pub unreachable-requires : goal.unreachable-requires
unreachable-requires c =
    let clash : None ≡ Some c.requires.evaluable.width = c.in-None.ensures ∙ ap bits_of_type c.requires.evaluable.typed in cc
