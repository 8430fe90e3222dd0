use Rattle.std.proofs.Common.{◌≡◌, ℕ, ◌<◌, List, length, Option, Some, refl, sym, ap, subst, arith, ◌∙◌}
use Rattle.std.specs.Prelude.{IfSome}
use Rattle.std.proofs.lemmas.List.{length-map}
use Rattle.ir_store.specs.Bodies.{ops_of, read_op}
use Rattle.ir_store.specs.BodyOps.{BodyOp}
use Rattle.ir_store.specs.OperationViews.{result_of}
use Rattle.ir_store.specs.ShortLists.{short_items}
use Rattle.inline_pass.specs.Callees.{callee_seen}
use Rattle.inline_pass.specs.Flattening.{by_kind, by_symbol}
use Rattle.inline_pass.proofs.Forwarded.{alike_itself, alike_then, if_passed}
use Rattle.inline_pass.proofs.forwarding.forward_instance.Goals as goal

pub returns-then-takes_own : goal.returns-then-takes_own
returns-then-takes_own g c = alike_itself (by_symbol (g.C.Callees.look c.args.callees.now)) c.args.body.now c.requires.there

pub loop-number-init : goal.loop-number-init
loop-number-init g c = record { alike = alike_itself (by_symbol (g.C.Callees.look c.args.callees.now)) c.args.body.now c.requires.there; stays = refl }

pub forward_if_some-requires-clause-passed : goal.forward_if_some-requires-clause-passed
forward_if_some-requires-clause-passed g c =
    let long = length-map (short_items c.op-instance.result.results.now) result_of in
    let many = ap length c.as_slice.ensures in
    let within : c.loop-number.number < length (read_op c.args.op c.op-instance.result).parts.results = omega (arith, c.loop-number-test.true, c.min-count.ensures, long, many) in
    if_passed (g.C.Callees.look c.args.callees.now) (ops_of c.loop-number.body) c.args.op c.loop-number.number c.passed_value-value.result (read_op c.args.op c.op-instance.result)
    (callee_seen c.args.callee) (ops_of c.args.callee.body.now) c.as_slice-in-loop-number.result.now c.as_slice-in-loop-number-2.result.now
    (c.loop-number.invariant.stays ∙ c.op-instance.ensures) refl
    (subst (λ (o : Option BodyOp). IfSome o (λ (z : BodyOp). by_kind (g.C.Callees.look c.args.callees.now) z.parts.kind ≡ Some (callee_seen c.args.callee))) c.op-instance.ensures c.requires.is)
    within (c.as_slice-in-loop-number.ensures.value ∙ c.in_ok-given.ensures) (c.as_slice-in-loop-number-2.ensures.value ∙ c.in_ok-joined.ensures) c.passed_value-value.ensures
    (sym c.takes_own.ensures ∙ c.if-takes_own.false)

pub loop-number-preserved : goal.loop-number-preserved
loop-number-preserved g c = record {
  alike = alike_then (by_symbol (g.C.Callees.look c.args.callees.now)) c.args.body.now c.loop-number.body c.forward_if_some.new.body c.loop-number.invariant.alike c.forward_if_some.ensures.alike;
  stays = c.forward_if_some.ensures.stays ∙ c.loop-number.invariant.stays;
}
