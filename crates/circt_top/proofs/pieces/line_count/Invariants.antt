use Rattle.std.proofs.Common.{◌≡◌, ◌≤◌, ◌+◌, drop}
use Rattle.circt_top.specs.Pieces.{line_count}
use Rattle.circt_top.proofs.pieces.line_count.Given as goal

abbrev pub invariant-loop-byte : goal.invariant-loop-byte
invariant-loop-byte l = record {
  counted : line_count l.bytes ≡ l.count + line_count (drop l.byte-index l.bytes);
  few : l.count ≤ l.byte-index;
}
