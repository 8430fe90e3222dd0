use Rattle.std.proofs.Common.{suc, take, map}
use Rattle.circt_top.specs.PieceReprint.{ArePrinted}
use Rattle.circt_top.specs.PieceViews.{piece_of}
use Rattle.circt_top.proofs.outcome.print_each.Given as goal

abbrev pub invariant-loop-piece : goal.invariant-loop-piece
invariant-loop-piece g l = ArePrinted l.passes (map piece_of (take (suc l.piece-index) l.pieces)) l.text
