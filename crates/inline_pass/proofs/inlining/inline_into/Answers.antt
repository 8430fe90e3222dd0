use Rattle.std.proofs.Common.{◌≡◌, List, ◌∷◌, map, sym, ap, drop, get_or, ◌+◌, subst, ◌∙◌}
use Rattle.std.proofs.lemmas.List.{at_drop_more}
use Rattle.ir_store.specs.declared.operation.OpId.{OpId}
use Rattle.ir_store.specs.Bodies.{op_id, ids_of}
use Rattle.ir_store.specs.Live.{AreDistinct}
use Rattle.ir_store.proofs.BodyLemmas.{ids_once, index_ids}
use Rattle.inline_pass.specs.Flattening.{by_symbol}
use Rattle.inline_pass.proofs.InliningSteps.{IsWalking, walk_begins, next_there, next_operands, walk_goes}
use Rattle.inline_pass.proofs.BodyInlined.{fit_there}
use Rattle.inline_pass.proofs.inlining.inline_into.Goals as goal

pub forward_all-requires-clause-once : goal.forward_all-requires-clause-once
forward_all-requires-clause-once g c =
    subst AreDistinct (sym (ap (map (λ (i : OpId). i.index)) (c.as_slice.ensures.value ∙ c.in_ok-ids.ensures) ∙ index_ids (ids_of c.args.body.now))) (ids_once c.args.body.now)

pub forward_all-requires-clause-there : goal.forward_all-requires-clause-there
forward_all-requires-clause-there g c = fit_there c.args.body.now c.requires.of

pub loop-id-init : goal.loop-id-init
loop-id-init g c =
    walk_begins (by_symbol (g.C.Callees.look c.args.callees.now)) c.args.body.now c.forward_all.new.body c.as_slice-id-items.result.now
    (c.as_slice-id-items.ensures.value ∙ c.in_ok-ids.ensures) c.in_ok-forward_all.ensures

pub inline_op-requires-clause-there : goal.inline_op-requires-clause-there
inline_op-requires-clause-there g c =
    let all = c.as_slice-id-items.result.now in
    let i = c.loop-id.id-index in
    let steps : drop i all ≡ get_or all i (op_id 0) ∷ drop (i + 1) all = at_drop_more (λ (ids : List OpId). ids) all i (op_id 0) c.loop-id-test.true in
    let inner = by_symbol (g.C.Callees.look c.args.callees.now) in
    next_operands inner c.args.body.now c.loop-id.body (get_or all i (op_id 0)) (drop (i + 1) all) (subst (IsWalking inner c.args.body.now c.loop-id.body) steps c.loop-id.invariant)

pub inline_op-requires-clause-live : goal.inline_op-requires-clause-live
inline_op-requires-clause-live g c =
    let all = c.as_slice-id-items.result.now in
    let i = c.loop-id.id-index in
    let steps : drop i all ≡ get_or all i (op_id 0) ∷ drop (i + 1) all = at_drop_more (λ (ids : List OpId). ids) all i (op_id 0) c.loop-id-test.true in
    let inner = by_symbol (g.C.Callees.look c.args.callees.now) in
    next_there inner c.args.body.now c.loop-id.body (get_or all i (op_id 0)) (drop (i + 1) all) (subst (IsWalking inner c.args.body.now c.loop-id.body) steps c.loop-id.invariant)

pub loop-id-preserved : goal.loop-id-preserved
loop-id-preserved g c =
    let all = c.as_slice-id-items.result.now in
    let i = c.loop-id.id-index in
    let steps : drop i all ≡ get_or all i (op_id 0) ∷ drop (i + 1) all = at_drop_more (λ (ids : List OpId). ids) all i (op_id 0) c.loop-id-test.true in
    let inner = by_symbol (g.C.Callees.look c.args.callees.now) in
    walk_goes inner c.args.body.now c.loop-id.body c.inline_op.new.body (get_or all i (op_id 0)) (drop (i + 1) all)
    (subst (IsWalking inner c.args.body.now c.loop-id.body) steps c.loop-id.invariant) c.in_ok-inline_op.ensures
