use Rattle.std.proofs.lemmas.Nat.{and_mask}
use Rattle.bits_core.proofs.Numbers.{bits-mod}
use Rattle.bits_core.proofs.Bits.truncate.Goals as goal

pub returns : goal.returns
returns c = rw (c.mask.ensures, and_mask) (bits-mod _ _)
