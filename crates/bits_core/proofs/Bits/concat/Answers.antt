use Rattle.bits_core.proofs.Numbers.{bits-append}
use Rattle.bits_core.proofs.Storage.{number_joined}
use Rattle.bits_core.proofs.Bits.concat.Goals as goal

pub returns : goal.returns
returns c =
    cc (number_joined c.args.self.now c.args.low.now c.requires, bits-append c.args.self.now c.args.low.now)
