use Rattle.inline_laws.proofs.Weights.{inlining_is_lighter}
use Rattle.inline_laws.proofs.laws.inlining_is_lighter.Goals as goal

pub returns : goal.returns
returns c = λ d m md i o callee rename only valid at_m is s. inlining_is_lighter d md i o callee rename only is m at_m valid.finite s
