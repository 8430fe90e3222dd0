use Rattle.std.proofs.Common.{◌+◌, drop, nat_eq, sym, ap, ◌∙◌}
use Rattle.opcode.specs.declared.listed.Listed.{Listed}
use Rattle.ir_store.specs.Designs.{design_of}
use Rattle.ir_store.specs.OperationViews.{location_of}
use Rattle.op_verifier.specs.Entries.{op_in}
use Rattle.op_verifier.specs.BodyViews.{ports_viewed, body_viewed, position_viewed, op_viewed}
use Rattle.op_verifier.specs.Faults.{refused_at}
use Rattle.op_verifier.proofs.FaultSteps.{seen_at, op_refused, op_accepted}
use Rattle.op_verifier.proofs.faults.body_fault.Goals as goal

pub returns-in-Some : goal.returns-in-Some
returns-in-Some c =
    let v = c.args.view.now in
    let d = design_of c.args.design.now in
    let e = c.entry-item.result in
    let i = c.loop-position.position in
    let at = seen_at (position_viewed v) _ v.entries.items i c.len-count.result e c.deref-entry-items.ensures.value c.loop-position-test.true c.entry-item.is (c.len-count.ensures ∙ sym c.deref-entry-items.ensures.len) in
    op_refused d (ports_viewed v) (body_viewed v) _ (drop (i + 1) (body_viewed v)) (op_viewed v (op_in e)) (nat_eq (i + 1) c.len-count.result) c.in-Some.cause c.refused_at.result _
    at.0 at.1
    (sym c.in_ok-cause.ensures ∙ c.in-Some.is)
    (c.refused_at.ensures ∙ ap (λ (l : Listed). refused_at (location_of e.op.location) l c.in-Some.cause) c.listed-name.ensures)
    c.loop-position.invariant

pub loop-position-preserved : goal.loop-position-preserved
loop-position-preserved c =
    let v = c.args.view.now in
    let d = design_of c.args.design.now in
    let e = c.entry-item.result in
    let i = c.loop-position.position in
    let at = seen_at (position_viewed v) _ v.entries.items i c.len-count.result e c.deref-entry-items.ensures.value c.loop-position-test.true c.entry-item.is (c.len-count.ensures ∙ sym c.deref-entry-items.ensures.len) in
    op_accepted d (ports_viewed v) (body_viewed v) _ (drop (i + 1) (body_viewed v)) (op_viewed v (op_in e)) (nat_eq (i + 1) c.len-count.result) _
    at.0 at.1
    (sym c.in_ok-cause.ensures ∙ c.in-None.is)
    c.loop-position.invariant
