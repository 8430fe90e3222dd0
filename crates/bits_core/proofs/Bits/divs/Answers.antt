use Rattle.bits_core.proofs.Complement.{quotient_by_sign}
use Rattle.bits_core.proofs.Bits.divs.Goals as goal

pub returns : goal.returns
returns c = cc (quotient_by_sign c.args.self.now c.args.b.now)
