use Rattle.std.proofs.Common.{◌≡◌, map, sym, ◌∙◌, ap, subst, arith}
use Rattle.circt_top.specs.Accepting.{first_input}
use Rattle.circt_top.specs.Pieces.{pieces_of}
use Rattle.circt_top.specs.OutcomeParts.{GivesPieces}
use Rattle.circt_top.specs.PieceViews.{piece_of}
use Rattle.circt_top.proofs.PieceTexts.{pieces_give}
use Rattle.circt_top.proofs.outcome.print_pieces.Goals as goal

pub returns : goal.returns
returns g c = λ contents e.
    let pieces : map piece_of c.as_slice.result.now ≡ pieces_of (first_input contents) =
    ap (map piece_of) c.as_slice.ensures.value ∙ c.in_ok-pieces.ensures ∙ ap pieces_of (sym e) in
    pieces_give c.args.passes.now contents c.print_each.result (rw e (omega (arith, c.if-source-gt-MOST_BYTES.false)))
    (subst (λ ps. GivesPieces c.args.passes.now ps c.print_each.result) pieces c.print_each.ensures)
