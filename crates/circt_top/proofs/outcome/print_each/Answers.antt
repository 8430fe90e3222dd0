-- The pieces one by one.
use Rattle.circt_top.specs.PieceViews.{piece_of}
use Rattle.circt_top.proofs.PieceTexts.{begun, printed_on, refused_on, all_printed}
use Rattle.circt_top.proofs.outcome.print_each.Goals as goal

pub loop-piece-init : goal.loop-piece-init
loop-piece-init g c =
    begun piece_of c.args.passes.now c.args.pieces.now c.in-Some.first.now c.in-Some.others.now c.in-Some.ensures.cases.0 c.in_ok-text.text c.in_ok-text.ensures.printed

pub returns-in-Err : goal.returns-in-Err
returns-in-Err g c =
    refused_on piece_of c.args.passes.now c.args.pieces.now c.in-Some.first.now c.in-Some.others.now c.in-Some.ensures.cases.0 c.loop-piece.piece-index _ c.loop-piece.text c.in-Err.fail
    c.loop-piece-test.true c.loop-piece.invariant c.in-Err.ensures.refused

pub loop-piece-preserved : goal.loop-piece-preserved
loop-piece-preserved g c =
    let one = c.in-Ok.ensures.printed in
    printed_on piece_of c.args.passes.now c.args.pieces.now c.in-Some.first.now c.in-Some.others.now c.in-Some.ensures.cases.0 c.loop-piece.piece-index _ c.loop-piece.text one.0 c.push_piece.new.text
    c.loop-piece-test.true c.loop-piece.invariant one.1 one.2

pub returns : goal.returns
returns g c =
    all_printed piece_of c.args.passes.now c.args.pieces.now c.in-Some.first.now c.in-Some.others.now c.in-Some.ensures.cases.0 c.loop-piece.piece-index c.loop-piece.text
    c.loop-piece-test.false c.loop-piece.invariant
