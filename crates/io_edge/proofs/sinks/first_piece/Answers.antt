-- A text of one piece at most is its own first piece.
use Rattle.std.proofs.Common.{sym}
use Rattle.std.proofs.lemmas.List.{take_all, drop_all}
use Rattle.io_edge.proofs.sinks.first_piece.Goals as goal

pub returns-then-bytes-le-PIECE-clause-piece : goal.returns-then-bytes-le-PIECE-clause-piece
returns-then-bytes-le-PIECE-clause-piece c = sym (take_all 4096 c.args.bytes.now c.if-bytes-le-PIECE.true)

pub returns-then-bytes-le-PIECE-clause-others : goal.returns-then-bytes-le-PIECE-clause-others
returns-then-bytes-le-PIECE-clause-others c = sym (drop_all 4096 c.args.bytes.now c.if-bytes-le-PIECE.true)
