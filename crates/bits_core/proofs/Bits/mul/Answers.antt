use Rattle.std.proofs.Common.{◌*◌}
use Rattle.bits_core.proofs.Storage.{bits_wrapped}
use Rattle.bits_core.proofs.Bits.mul.Goals as goal

pub returns : goal.returns
returns c = cc (bits_wrapped c.width.result (c.value.result * c.value-2.result) c.width.ensures.most)
