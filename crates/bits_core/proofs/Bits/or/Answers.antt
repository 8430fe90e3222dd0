use Rattle.bits_core.proofs.Bitwise.{bits-or}
use Rattle.bits_core.proofs.Bits.or.Goals as goal

pub returns : goal.returns
returns c = cc (bits-or c.args.self.now c.args.b.now c.requires)
