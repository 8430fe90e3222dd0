use Rattle.std.proofs.Common.{arith, ◌-◌, ◌++◌, ◌∷◌, [], ap, sym, ◌∙◌}
use Rattle.bits_core.specs.Word.{bits, number}
use Rattle.bits_core.proofs.Numbers.{bits-number}
use Rattle.operation_values.proofs.Pieces.{piece_more, bits_top}
use Rattle.operation_values.proofs.bit_string.BitString.from_bits.Goals as goal

pub loop-left-init : goal.loop-left-init
loop-left-init c = record { within = omega arith; split = rw (c.new-bits.ensures.items, c.width-left.ensures.value) (bits-number c.args.word.now) }

pub loop-left-preserved : goal.loop-left-preserved
loop-left-preserved c =
    let top = bits_top c.loop-left.left (number c.args.word.now) c.loop-left-test.true in
    record {
      within = omega arith;
      split = piece_more c.loop-left.bits.items (_ ∷ []) (bits (c.loop-left.left - 1) (number c.args.word.now)) c.push.new.self.items c.args.word.now
          (ap (λ z. c.loop-left.bits.items ++ z) (sym top) ∙ c.loop-left.invariant.split) (rw (← c.value.ensures.value) c.in_ok-push.ensures.items);
    }
