use Rattle.std.proofs.Common.{drop}
use Rattle.inline_pass.specs.Flattening.{by_symbol}
use Rattle.inline_pass.proofs.InliningSteps.{IsWalking}
use Rattle.inline_pass.proofs.inlining.inline_into.Given as goal

abbrev pub invariant-loop-id : goal.invariant-loop-id
invariant-loop-id g l = IsWalking (by_symbol (g.C.Callees.look l.callees)) l.fn.body l.body (drop l.id-index l.id-items)
