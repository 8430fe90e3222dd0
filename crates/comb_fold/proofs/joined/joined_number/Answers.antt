use Rattle.std.proofs.Common.{◌≡◌, Some, None, sym, ap, ◌∙◌}
use Rattle.bits_core.specs.Word.{number}
use Rattle.body_edits.specs.Sites.{ops_at, ref_at, kind_at}
use Rattle.comb_fold.proofs.JoinedPattern.{first_word, second_word, words_taken, number_joined}
use Rattle.comb_fold.proofs.joined.joined_number.Goals as goal

pub op_value-requires-clause-words : goal.op_value-requires-clause-words
op_value-requires-clause-words c =
    words_taken (ops_at c.args.site.now) (ref_at c.args.site.now) c.args.site.now.op.operands.now (kind_at c.args.site.now) c.args.two c.requires.two _ _ c.in-Some.x c.in-Some-constant_of.y
    (sym c.in-Some.ensures) (sym c.in-Some-constant_of.ensures) c.requires.even c.width-width.result c.width-width.ensures.value

pub unreachable-requires : goal.unreachable-requires
unreachable-requires c =
    let word = second_word (ops_at c.args.site.now) (ref_at c.args.site.now) c.args.site.now.op.operands.now (kind_at c.args.site.now) c.args.two c.requires.two _ in
    let clash : None ≡ Some word.0 = sym c.in-None-constant_of.is ∙ c.constant_of-in-Some.ensures ∙ word.1 in
    cc

pub unreachable-requires-in-None : goal.unreachable-requires-in-None
unreachable-requires-in-None c =
    let word = first_word (ops_at c.args.site.now) (ref_at c.args.site.now) c.args.site.now.op.operands.now (kind_at c.args.site.now) c.args.two c.requires.two _ in
    let clash : None ≡ Some word.0 = sym c.in-None.is ∙ c.constant_of.ensures ∙ word.1 in
    cc

pub returns : goal.returns
returns c =
    ap Some (c.value.ensures.value ∙ ap number c.op_value.ensures)
    ∙ number_joined (ops_at c.args.site.now) (ref_at c.args.site.now) c.args.site.now.op.operands.now (kind_at c.args.site.now) c.args.two c.requires.two _ _ c.in-Some.x c.in-Some-constant_of.y
    (sym c.in-Some.ensures) (sym c.in-Some-constant_of.ensures) c.width-width.result c.width-width.ensures.value
