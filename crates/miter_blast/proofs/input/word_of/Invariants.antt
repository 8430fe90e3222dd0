use Rattle.std.proofs.Common.{◌≡◌, take}
use Rattle.bits_core.specs.Word.{number}
use Rattle.miter_blast.proofs.input.word_of.Given as goal

abbrev pub invariant-loop-bit : goal.invariant-loop-bit
invariant-loop-bit l = l.value ≡ number (take l.bit-index l.bits)
