use Rattle.bits_core.proofs.Bitwise.{bits-and}
use Rattle.bits_core.proofs.Bits.and.Goals as goal

pub returns : goal.returns
returns c = cc (bits-and c.args.self.now c.args.b.now c.requires)
