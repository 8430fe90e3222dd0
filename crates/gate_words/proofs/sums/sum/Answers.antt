use Rattle.std.proofs.Common.{◌≡◌, ◌∙◌, ◌-◌, false, length, arith, length-set}
use Rattle.gates.specs.declared.signal.Signal.TheVariants.{Fixed}
use Rattle.gate_words.proofs.Loops.{sum_before, sum_start}
use Rattle.gate_words.proofs.sums.sum.Goals as goal

pub loop-i-init : goal.loop-i-init
loop-i-init c =
    let room : length c.in_ok-word.word.items ≡ length c.args.xs.now = omega (arith, c.in_ok-word.ensures.len) in
    record { within = omega arith; room = room; runs = sum_start c.args.xs.now c.args.ys.now _ c.args.carry room }

pub loop-i-preserved : goal.loop-i-preserved
loop-i-preserved c =
    let kept = c.loop-i.invariant in
    let word = c.loop-i.word.items in
    record {
      within = omega arith;
      room = length-set word (c.loop-i.i - 1) c.in_ok-bit.bit.sum ∙ kept.room;
      runs = sum_before c.args.xs.now c.args.ys.now word c.args.carry c.loop-i.i (Fixed false) c.loop-i.over c.in_ok-bit.bit (omega arith) kept.within
          c.requires kept.room kept.runs c.in_ok-bit.ensures;
    }
