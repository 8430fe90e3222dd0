-- What pieces in code stand for.
use Rattle.circt_top.specs.Pieces as pieces
use Rattle.circt_top.specs.declared.pieces.Piece.{Piece}

abbrev pub piece_of : Piece → pieces.Piece
piece_of p = record { before = p.before.now; bytes = p.bytes.now }
