use Rattle.std.proofs.Common.{ap, ◌∙◌}
use Rattle.design_cycles.proofs.Chunks.{bits_step_set, bits_step_open}
use Rattle.design_cycles.proofs.bit_set_lists.push_bits.Goals as goal
use Rattle.design_cycles.proofs.bit_set_lists.push_bits.Goals.{then-bit_set-x-eq1+in_ok-push, else-bit_set-x-eq1}

pub loop-x-preserved : goal.loop-x-preserved
loop-x-preserved c =
    elim c.if-bit_set-x-eq1.branch [
      | then-bit_set-x-eq1+in_ok-push w ↦
          bits_step_set c.args.bit_set c.args.first c.loop-x.x c.args.numbers.now.items c.loop-x.numbers.items c.if-bit_set-x-eq1.numbers.items c.loop-x.invariant w.if-bit_set-x-eq1.true
          (ap (λ v. v.items) w.numbers-is ∙ w.in_ok-push.ensures.items)
      | else-bit_set-x-eq1 w ↦
          bits_step_open c.args.bit_set c.args.first c.loop-x.x c.args.numbers.now.items c.loop-x.numbers.items c.if-bit_set-x-eq1.numbers.items c.loop-x.invariant w.if-bit_set-x-eq1.false
          (ap (λ v. v.items) w.numbers-is)
    ]
