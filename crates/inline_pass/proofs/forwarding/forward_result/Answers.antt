use Rattle.std.proofs.Common.{ap, ◌∙◌}
use Rattle.ir_store.specs.Bodies.{ops_of}
use Rattle.ir_store.specs.BodyOps.{op_at}
use Rattle.inline_pass.specs.Flattening.{by_symbol}
use Rattle.inline_pass.proofs.Forwarded.{alike_itself, forwarded, instance_stays}
use Rattle.inline_pass.proofs.forwarding.forward_result.Goals as goal

pub returns-then-is_final-clause-alike : goal.returns-then-is_final-clause-alike
returns-then-is_final-clause-alike g c =
    forwarded (g.C.Callees.look c.args.callees.now) c.args.body.now c.requires.there c.args.op c.args.number c.args.value c.requires.passed c.replace_all_uses.new.self
    c.replace_all_uses.ensures.ops (c.is_final.ensures c.if-is_final.true)

pub returns-then-is_final-clause-stays : goal.returns-then-is_final-clause-stays
returns-then-is_final-clause-stays g c =
    ap (λ ops. op_at ops c.args.op.index) c.replace_all_uses.ensures.ops
    ∙ instance_stays c.args.op c.args.number c.args.value (ops_of c.args.body.now) c.requires.passed.instance c.requires.passed.found c.requires.passed.others

pub returns-else-is_final-clause-alike : goal.returns-else-is_final-clause-alike
returns-else-is_final-clause-alike g c = alike_itself (by_symbol (g.C.Callees.look c.args.callees.now)) c.args.body.now c.requires.there
