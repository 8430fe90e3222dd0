use Rattle.bits_core.proofs.Counting.{parity-count_ones}
use Rattle.bits_core.proofs.Bits.parity.Goals as goal

pub returns : goal.returns
returns c = cc (parity-count_ones c.args.self.now)
