use Rattle.std.proofs.Common.{ap, ◌∙◌}
use Rattle.design_cycles.proofs.Inputs.{number_marked, number_open}
use Rattle.design_cycles.proofs.summaries.marked_inputs.Goals as goal
use Rattle.design_cycles.proofs.summaries.marked_inputs.Goals.{then-is_marked+in_ok-push, else-is_marked}

pub loop-number-preserved : goal.loop-number-preserved
loop-number-preserved c =
    elim c.if-is_marked.branch [
      | then-is_marked+in_ok-push w ↦
          number_marked c.args.marks.now c.args.inputs.now c.loop-number.number c.loop-number-test.true c.if-is_marked.nodes.items c.loop-number.nodes.items c.loop-number.invariant
          c.is_marked.result c.is_marked.ensures w.if-is_marked.true (ap (λ v. v.items) w.nodes-is ∙ w.in_ok-push.ensures.items)
      | else-is_marked w ↦
          number_open c.args.marks.now c.args.inputs.now c.loop-number.number c.loop-number-test.true c.if-is_marked.nodes.items c.loop-number.nodes.items c.loop-number.invariant
          c.is_marked.result c.is_marked.ensures w.if-is_marked.false (ap (λ v. v.items) w.nodes-is)
    ]
