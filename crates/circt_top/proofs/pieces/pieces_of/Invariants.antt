use Rattle.std.proofs.Common.{◌≡◌, ◌≤◌, ◌-◌, ◌++◌, take, drop, map, length}
use Rattle.std.specs.Prelude.{slice_range}
use Rattle.circt_top.specs.Pieces.{lines_of, pieces_of, pieces_of_lines}
use Rattle.circt_top.specs.PieceViews.{piece_of}
use Rattle.circt_top.proofs.Cuts.{carried}
use Rattle.circt_top.proofs.pieces.pieces_of.Given as goal

abbrev pub invariant-loop-at : goal.invariant-loop-at
invariant-loop-at l = record {
  within : l.start ≤ l.at;
  short : l.at ≤ length l.source;
  cut : map piece_of l.pieces.items ++ carried (take l.start l.source) (slice_range l.source l.start l.at) (pieces_of_lines (lines_of (drop l.at l.source))) ≡ pieces_of l.source;
}

abbrev pub decreases-loop-at : goal.decreases-loop-at
decreases-loop-at l = length l.source - l.at
