use Rattle.std.proofs.Common.{false, arith}
use Rattle.gates.specs.declared.signal.Signal.TheVariants.{Fixed}
use Rattle.gate_words.proofs.Loops.{carried_before, carried_start}
use Rattle.gate_words.proofs.sums.carry_out.Goals as goal

pub loop-i-init : goal.loop-i-init
loop-i-init c = record { within = omega arith; runs = carried_start c.args.xs.now c.args.ys.now c.args.carry }

pub loop-i-preserved : goal.loop-i-preserved
loop-i-preserved c =
    let kept = c.loop-i.invariant in
    record {
      within = omega arith;
      runs = carried_before c.args.xs.now c.args.ys.now c.args.carry c.loop-i.i (Fixed false) c.loop-i.over c.in_ok-over.over (omega arith) kept.within
          c.requires kept.runs c.in_ok-over.ensures;
    }
