use Rattle.inline_pass.specs.Flattening.{by_symbol}
use Rattle.inline_pass.proofs.Forwarded.{alike_itself, alike_then}
use Rattle.inline_pass.proofs.forwarding.forward_all.Goals as goal

pub loop-op-init : goal.loop-op-init
loop-op-init g c = alike_itself (by_symbol (g.C.Callees.look c.args.callees.now)) c.args.body.now c.requires.there

pub forward-requires : goal.forward-requires
forward-requires g c = c.loop-op.invariant.there

pub loop-op-preserved : goal.loop-op-preserved
loop-op-preserved g c =
    alike_then (by_symbol (g.C.Callees.look c.args.callees.now)) c.args.body.now c.loop-op.body c.forward.new.body c.loop-op.invariant c.in_ok-forward.ensures
