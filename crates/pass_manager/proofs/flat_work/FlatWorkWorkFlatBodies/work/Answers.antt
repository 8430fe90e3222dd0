use Rattle.std.proofs.Common.{◌≡◌, sym, subst, ◌∙◌}
use Rattle.sched_core.specs.State.{callees_of}
use Rattle.shared_schedule.specs.Views.{callees_in}
use Rattle.shared_schedule.specs.Copies.{AreReceived}
use Rattle.ir_store.specs.Designs.{design_of, modules_of}
use Rattle.inline_pass.specs.OneBody.{IsFlatBody, IsOneBody}
use Rattle.pass_manager.specs.Flats.{IsFlatCopy}
use Rattle.pass_manager.proofs.FlatBodies.{read_row, one_body}
use Rattle.pass_manager.proofs.flat_work.FlatWorkWorkFlatBodies.work.Goals as goal

pub flatten_received-requires : goal.flatten_received-requires
flatten_received-requires g c =
    let d = design_of c.args.plan.now.pieces.before.value in
    let lists = callees_in c.args.plan.now in
    let numbers : c.as_slice-numbers.result.now ≡ callees_of lists c.args.m =
    c.as_slice-numbers.ensures.value ∙ read_row c.args.plan.now.callees.items (λ row. row.items) c.args.m c.index.result.now c.index.ensures c.requires.within in (
      d,
      c.args.m,
      one_body d c.args.m (modules_of c.args.plan.now.pieces.headers.now) lists c.args.body c.in_ok-body.body c.as_slice-numbers.result.now c.as_slice.result.now c.requires.lists c.requires.first
          c.in_ok-body.ensures numbers (subst (AreReceived (IsFlatCopy d) (callees_of lists c.args.m)) (sym c.as_slice.ensures.value) c.requires.received),
    )

pub returns : goal.returns
returns g c =
    let d = design_of c.args.plan.now.pieces.before.value in
    let lists = callees_in c.args.plan.now in
    let numbers : c.as_slice-numbers.result.now ≡ callees_of lists c.args.m =
    c.as_slice-numbers.ensures.value ∙ read_row c.args.plan.now.callees.items (λ row. row.items) c.args.m c.index.result.now c.index.ensures c.requires.within in
    let one : IsOneBody d c.args.m (modules_of c.args.plan.now.pieces.headers.now) c.as_slice-numbers.result.now c.as_slice.result.now c.in_ok-body.body =
    one_body d c.args.m (modules_of c.args.plan.now.pieces.headers.now) lists c.args.body c.in_ok-body.body c.as_slice-numbers.result.now c.as_slice.result.now c.requires.lists c.requires.first
    c.in_ok-body.ensures numbers (subst (AreReceived (IsFlatCopy d) (callees_of lists c.args.m)) (sym c.as_slice.ensures.value) c.requires.received) in
    subst (IsFlatBody d c.args.m) (sym c.in_ok-new.ensures.ok) (c.in_ok-flatten_received.ensures d c.args.m one)
