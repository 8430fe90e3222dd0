use Rattle.std.proofs.Common.{◌≡◌}
use Rattle.bits_core.specs.Word.{copies}
use Rattle.bits_core.proofs.Bits.replicate.Given as goal

abbrev pub invariant-loop : goal.invariant-loop
invariant-loop l = l.all ≡ copies l.counter l.self
