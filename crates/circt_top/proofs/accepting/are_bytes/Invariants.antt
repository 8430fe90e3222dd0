use Rattle.std.proofs.Common.{take}
use Rattle.stored_form.specs.Bytes.{AreBytes}
use Rattle.circt_top.proofs.accepting.are_bytes.Given as goal

abbrev pub invariant-loop-byte : goal.invariant-loop-byte
invariant-loop-byte l = AreBytes (take l.byte-index l.bytes)
