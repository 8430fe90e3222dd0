use Rattle.std.proofs.Common.{take}
use Rattle.stored_form.specs.Bytes.{AreBytes}
use Rattle.stored_form.proofs.bytes.are_bytes.Given as goal

abbrev pub invariant-loop-byte : goal.invariant-loop-byte
invariant-loop-byte l = AreBytes (take l.byte-index l.bytes)
