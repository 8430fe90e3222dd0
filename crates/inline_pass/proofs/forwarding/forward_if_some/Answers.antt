use Rattle.inline_pass.specs.Flattening.{by_symbol}
use Rattle.inline_pass.proofs.Forwarded.{alike_itself}
use Rattle.inline_pass.proofs.forwarding.forward_if_some.Goals as goal

pub returns-in_default-clause-alike : goal.returns-in_default-clause-alike
returns-in_default-clause-alike g c = alike_itself (by_symbol (g.C.Callees.look c.args.callees.now)) c.args.body.now c.requires.there
