use Rattle.std.proofs.Common.{◌≡◌, Some, sym, subst, ◌∙◌}
use Rattle.std.specs.Prelude.{Option, IfSome}
use Rattle.ir_store.specs.BodyOps.{BodyOp}
use Rattle.inline_pass.specs.Callees.{callee_seen}
use Rattle.inline_pass.specs.Flattening.{by_kind, by_symbol}
use Rattle.inline_pass.proofs.Forwarded.{alike_itself}
use Rattle.inline_pass.proofs.forwarding.forward.Goals as goal

pub returns-then-not-contains : goal.returns-then-not-contains
returns-then-not-contains g c = alike_itself (by_symbol (g.C.Callees.look c.args.callees.now)) c.args.body.now c.requires

pub forward_instance-requires-clause-is : goal.forward_instance-requires-clause-is
forward_instance-requires-clause-is g c =
    subst (λ (x : Option BodyOp). IfSome x (λ (o : BodyOp). by_kind (g.C.Callees.look c.args.callees.now) o.parts.kind ≡ Some (callee_seen c.in-Some.callee))) (sym c.op.ensures) (sym c.in-Some.ensures)

pub returns-in-None : goal.returns-in-None
returns-in-None g c = alike_itself (by_symbol (g.C.Callees.look c.args.callees.now)) c.args.body.now c.requires
