use Rattle.inline_pass.specs.Flattening.{by_symbol}
use Rattle.inline_pass.specs.Forwarding.{InlinesAlike}
use Rattle.inline_pass.proofs.forwarding.forward_all.Given as goal

abbrev pub invariant-loop-op : goal.invariant-loop-op
invariant-loop-op g l = InlinesAlike (by_symbol (g.C.Callees.look l.callees)) l.fn.body l.body
