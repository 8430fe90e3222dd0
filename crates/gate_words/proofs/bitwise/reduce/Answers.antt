use Rattle.std.proofs.Common.{false, arith}
use Rattle.gates.specs.declared.signal.Signal.TheVariants.{Fixed}
use Rattle.gate_words.proofs.Loops.{reduced_before, reduced_start}
use Rattle.gate_words.proofs.bitwise.reduce.Goals as goal

pub loop-i-init : goal.loop-i-init
loop-i-init c = record { within = omega arith; runs = reduced_start _ c.args.xs.now }

pub loop-i-preserved : goal.loop-i-preserved
loop-i-preserved c =
    let kept = c.loop-i.invariant in
    record {
      within = omega arith;
      runs = reduced_before _ c.args.xs.now c.loop-i.i (Fixed false) c.loop-i.so_far c.in_ok-so_far.so_far (omega arith) kept.within kept.runs c.in_ok-so_far.ensures;
    }
