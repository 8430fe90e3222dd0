use Rattle.std.proofs.Common.{drop}
use Rattle.mlir_lexer.specs.Contents.{decode, unescape}
use Rattle.mlir_lexer.proofs.Decoding.{IsGoingIn}
use Rattle.mlir_lexer.proofs.contents.push_unescaped.Given as goal

abbrev pub invariant-loop-byte : goal.invariant-loop-byte
invariant-loop-byte l = IsGoingIn l.fn.into l.into (unescape l.body) (decode l.pending (drop l.byte-index l.body))
