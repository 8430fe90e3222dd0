use Rattle.inline_laws.proofs.WithoutWires.{inlined_alike}
use Rattle.inline_laws.proofs.laws.inline_without_wires_preserves.Goals as goal

pub returns : goal.returns
returns c = λ d m md i o callee rename only valid at_m is. (inlined_alike d md i o callee rename is m at_m only valid).follows
