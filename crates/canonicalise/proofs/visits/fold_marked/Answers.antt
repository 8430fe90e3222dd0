use Rattle.std.proofs.Common.{ap, ◌∙◌, slice_get}
use Rattle.ir_store.specs.Bodies.{read_op}
use Rattle.canonicalise.proofs.Tried.{still_settled}
use Rattle.canonicalise.proofs.visits.fold_marked.Goals as goal

pub returns-clause-settled : goal.returns-clause-settled
returns-clause-settled c =
    still_settled c.args.body.now c.fold.new.body c.args.marks.now c.mark_users.new.self c.mark_makers.new.self c.args.op (read_op c.args.op c.op.result)
    c.requires.fit c.requires.live c.requires.marks c.requires.unsettled c.op.ensures c.mark_users.ensures.marked c.mark_users.ensures.loses
    (λ id is.
    let kept = c.mark_makers.ensures.marked id is in
    (kept.0, λ k w n at. kept.1 k w n (ap (λ values. slice_get values k) (c.as_slice.ensures ∙ c.in_ok-operands.ensures.ok) ∙ at))) c.mark_makers.ensures.loses
    c.in_ok-folded.folded c.in_ok-folded.ensures.tries
