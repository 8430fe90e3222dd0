use Rattle.bits_core.proofs.Bitwise.{bits-xor}
use Rattle.bits_core.proofs.Bits.xor.Goals as goal

pub returns : goal.returns
returns c = cc (bits-xor c.args.self.now c.args.b.now c.requires)
