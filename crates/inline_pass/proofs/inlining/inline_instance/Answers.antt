use Rattle.std.proofs.Common.{◌<◌, ◌^◌, List, length, sym, ap, subst, ◌∙◌}
use Rattle.std.specs.Prelude.{Contains}
use Rattle.ir_store.specs.declared.operation.OpId.{OpId}
use Rattle.ir_store.specs.Bodies.{ops_of, ids_of}
use Rattle.ir_store.specs.BodyOps.{BodyOp, ids_in, taken_out, IsUnused}
use Rattle.ir_store.proofs.BodyLemmas.{ids_once}
use Rattle.inline_laws.specs.Unwire.{unwire}
use Rattle.body_edits.specs.Views.{body_ops}
use Rattle.inline_pass.specs.Callees.{callee_seen}
use Rattle.inline_pass.specs.Inlinable.{own_name}
use Rattle.inline_pass.specs.MovedOps.{results_replaced}
use Rattle.body_edits.specs.WiresOut.{StandTogether, first_position, ids_without}
use Rattle.inline_pass.proofs.InstanceInlined.{unused, together, still_there}
use Rattle.inline_pass.proofs.BodyInlined.{is_put, olds, inlined}
use Rattle.inline_pass.proofs.inlining.inline_instance.Goals as goal

pub replace_results-requires : goal.replace_results-requires
replace_results-requires c =
    let p = is_put c.args.body.now c.args.op (callee_seen c.args.callee) (ops_of c.args.callee.body.now) c.in_ok-wires.wires.items (ops_of c.put_inlined.new.body) c.requires.live
    c.in_ok-wires.ensures in
    subst (λ (ws : List OpId). length ws < 2 ^ 32) (sym c.as_slice.ensures.value) p.put.few

pub erase-requires-clause-live : goal.erase-requires-clause-live
erase-requires-clause-live c =
    let p = is_put c.args.body.now c.args.op (callee_seen c.args.callee) (ops_of c.args.callee.body.now) c.in_ok-wires.wires.items (ops_of c.put_inlined.new.body) c.requires.live
    c.in_ok-wires.ensures in
    let now = c.replace_results.ensures ∙ ap (λ (ws : List OpId). results_replaced c.args.op 0 ws (ops_of c.put_inlined.new.body)) c.as_slice.ensures.value in
    subst (λ (os : List BodyOp). Contains (ids_in os) c.args.op.index) (sym now)
    (still_there p.prefix p.x p.back c.args.op p.same (own_name p.x.parts.kind) (callee_seen c.args.callee) (ops_of c.args.callee.body.now) c.in_ok-wires.wires.items
    (ops_of c.put_inlined.new.body) p.put (ids_once c.put_inlined.new.body))

pub erase-requires-clause-unused : goal.erase-requires-clause-unused
erase-requires-clause-unused c =
    let p = is_put c.args.body.now c.args.op (callee_seen c.args.callee) (ops_of c.args.callee.body.now) c.in_ok-wires.wires.items (ops_of c.put_inlined.new.body) c.requires.live
    c.in_ok-wires.ensures in
    let now = c.replace_results.ensures ∙ ap (λ (ws : List OpId). results_replaced c.args.op 0 ws (ops_of c.put_inlined.new.body)) c.as_slice.ensures.value in
    subst (IsUnused c.args.op.index) (sym now)
    (unused p.prefix p.x p.back c.args.op p.same (own_name p.x.parts.kind) (callee_seen c.args.callee) (ops_of c.args.callee.body.now) c.in_ok-wires.wires.items
    (ops_of c.put_inlined.new.body) p.put (ids_once c.put_inlined.new.body)
    (olds c.args.body.now c.put_inlined.new.body c.args.op c.requires.there (callee_seen c.args.callee) (ops_of c.args.callee.body.now) c.in_ok-wires.wires.items p))

pub take_wires_out-requires : goal.take_wires_out-requires
take_wires_out-requires c =
    let p = is_put c.args.body.now c.args.op (callee_seen c.args.callee) (ops_of c.args.callee.body.now) c.in_ok-wires.wires.items (ops_of c.put_inlined.new.body) c.requires.live
    c.in_ok-wires.ensures in
    let now = c.erase.ensures.ops ∙ ap (taken_out c.args.op.index) (c.replace_results.ensures ∙ ap (λ (ws : List OpId). results_replaced c.args.op 0 ws (ops_of c.put_inlined.new.body)) c.as_slice.ensures.value) in
    subst (λ (ws : List OpId). StandTogether ws (ops_of c.erase.new.self)) (sym c.as_slice-2.ensures.value)
    (subst (StandTogether c.in_ok-wires.wires.items) (sym now)
    (together p.prefix p.x p.back c.args.op p.same (own_name p.x.parts.kind) (callee_seen c.args.callee) (ops_of c.args.callee.body.now) c.in_ok-wires.wires.items
    (ops_of c.put_inlined.new.body) p.put (ids_once c.put_inlined.new.body)
    (olds c.args.body.now c.put_inlined.new.body c.args.op c.requires.there (callee_seen c.args.callee) (ops_of c.args.callee.body.now) c.in_ok-wires.wires.items p)))

pub returns : goal.returns
returns c =
    let p = is_put c.args.body.now c.args.op (callee_seen c.args.callee) (ops_of c.args.callee.body.now) c.in_ok-wires.wires.items (ops_of c.put_inlined.new.body) c.requires.live
    c.in_ok-wires.ensures in
    let now = c.erase.ensures.ops ∙ ap (taken_out c.args.op.index) (c.replace_results.ensures ∙ ap (λ (ws : List OpId). results_replaced c.args.op 0 ws (ops_of c.put_inlined.new.body)) c.as_slice.ensures.value) in
    inlined c.args.body.now c.put_inlined.new.body c.erase.new.self c.take_wires_out.new.body c.args.op c.requires.there (callee_seen c.args.callee) (ops_of c.args.callee.body.now)
    c.in_ok-wires.wires.items p now
    (c.take_wires_out.ensures.ops ∙ ap (λ (ws : List OpId). unwire (first_position (ids_of c.erase.new.self) ws) (length ws) (body_ops c.erase.new.self)) c.as_slice-2.ensures.value)
    (c.take_wires_out.ensures.ids ∙ ap (λ (ws : List OpId). ids_without ws (ids_of c.erase.new.self)) c.as_slice-2.ensures.value)
