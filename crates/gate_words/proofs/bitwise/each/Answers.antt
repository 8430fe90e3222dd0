use Rattle.std.proofs.Common.{◌≡◌, ◌∙◌, ◌-◌, false, length, arith, length-set}
use Rattle.gates.specs.declared.signal.Signal.TheVariants.{Fixed}
use Rattle.gate_words.proofs.Loops.{each_before, each_start}
use Rattle.gate_words.proofs.bitwise.each.Goals as goal

pub loop-i-init : goal.loop-i-init
loop-i-init c =
    let room : length c.in_ok-made.made.items ≡ length c.args.xs.now = omega (arith, c.in_ok-made.ensures.len) in
    record { within = omega arith; room = room; runs = each_start _ c.args.xs.now c.args.ys.now _ room }

pub loop-i-preserved : goal.loop-i-preserved
loop-i-preserved c =
    let kept = c.loop-i.invariant in
    let made = c.loop-i.made.items in
    record {
      within = omega arith;
      room = length-set made (c.loop-i.i - 1) c.in_ok-bit.bit ∙ kept.room;
      runs = each_before _ c.args.xs.now c.args.ys.now made c.loop-i.i (Fixed false) c.in_ok-bit.bit (omega arith) kept.within c.requires kept.room
          kept.runs c.in_ok-bit.ensures;
    }
