use Rattle.std.proofs.Common.{◌≡◌}
use Rattle.ir_store.specs.Bodies.{ops_of}
use Rattle.ir_store.specs.BodyOps.{op_at}
use Rattle.inline_pass.specs.Flattening.{by_symbol}
use Rattle.inline_pass.specs.Forwarding.{InlinesAlike}
use Rattle.inline_pass.proofs.forwarding.forward_instance.Given as goal

abbrev pub invariant-loop-number : goal.invariant-loop-number
invariant-loop-number g l = record {
  alike : InlinesAlike (by_symbol (g.C.Callees.look l.callees)) l.fn.body l.body;
  stays : op_at (ops_of l.body) l.op.index ≡ op_at (ops_of l.fn.body) l.op.index;
}
