use Rattle.bits_core.proofs.Storage.{bits-not}
use Rattle.bits_core.proofs.Bits.complement.Goals as goal

pub returns : goal.returns
returns c = cc (bits-not c.args.self.now)
