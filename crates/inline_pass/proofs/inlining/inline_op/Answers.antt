use Rattle.std.proofs.Common.{Some, None, refl, sym, subst}
use Rattle.std.proofs.lemmas.Result.{on_ok_weaker}
use Rattle.ir_store.specs.Bodies.{ids_of, read_op}
use Rattle.ir_store.specs.Numbered.{position_of, op_by}
use Rattle.body_edits.specs.Views.{position_in}
use Rattle.inline_pass.specs.Callees.{callee_seen}
use Rattle.inline_pass.specs.Inlinable.{IsStep}
use Rattle.inline_pass.proofs.InliningSteps.{module_is}
use Rattle.inline_pass.proofs.inlining.inline_op.Goals as goal

pub returns-in-Some : goal.returns-in-Some
returns-in-Some g c =
    let b = c.args.body.now in
    let x = read_op c.args.op c.op.result in
    on_ok_weaker c.inline_instance.result
    (λ inlined. λ o there. subst (IsStep b c.inline_instance.new.body (position_in b c.args.op) o)
    (sym (module_is b c.args.op x (g.C.Callees.look c.args.callees.now) (Some (callee_seen c.in-Some.callee)) c.op.ensures c.in-Some.ensures o there)) (inlined o there))
    c.inline_instance.ensures

pub returns-in-None : goal.returns-in-None
returns-in-None g c =
    let b = c.args.body.now in
    let x = read_op c.args.op c.op.result in
    λ o there. subst (IsStep b b (position_in b c.args.op) o) (sym (module_is b c.args.op x (g.C.Callees.look c.args.callees.now) None c.op.ensures c.in-None.ensures o there)) (refl, refl)
