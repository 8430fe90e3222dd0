use Rattle.std.proofs.Common.{ap, ◌∙◌}
use Rattle.design_cycles.proofs.Inputs.{input_more, output_more}
use Rattle.design_cycles.proofs.summaries.input_ports.Goals as goal
use Rattle.design_cycles.proofs.summaries.input_ports.Goals.{then-not-ports-position+in_ok-push, else-not-ports-position}

pub loop-position-preserved : goal.loop-position-preserved
loop-position-preserved c =
    elim c.if-not-ports-position.branch [
      | then-not-ports-position+in_ok-push w ↦
          input_more c.args.ports.now c.loop-position.position c.index-ports-position.result c.loop-position-test.true
          c.if-not-ports-position.inputs.items c.loop-position.inputs.items c.loop-position.invariant w.if-not-ports-position.true (ap (λ v. v.items) w.inputs-is ∙ w.in_ok-push.ensures.items)
      | else-not-ports-position w ↦
          output_more c.args.ports.now c.loop-position.position c.index-ports-position.result c.loop-position-test.true
          c.if-not-ports-position.inputs.items c.loop-position.inputs.items c.loop-position.invariant w.if-not-ports-position.false (ap (λ v. v.items) w.inputs-is)
    ]
