use Rattle.bits_core.proofs.Complement.{rest_by_sign}
use Rattle.bits_core.proofs.Bits.mods.Goals as goal

pub returns : goal.returns
returns c = cc (rest_by_sign c.args.self.now c.args.b.now)
