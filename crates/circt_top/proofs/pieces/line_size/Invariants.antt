use Rattle.std.proofs.Common.{◌≡◌, ◌+◌, drop}
use Rattle.circt_top.specs.Pieces.{line_size}
use Rattle.circt_top.proofs.pieces.line_size.Given as goal

abbrev pub invariant-loop-byte : goal.invariant-loop-byte
invariant-loop-byte l = record {
  counted : line_size l.text ≡ l.size + line_size (drop l.byte-index l.text);
  each : l.size ≡ l.byte-index;
}
