use Rattle.std.proofs.Common.{◌≤◌, ◌*◌, ◌^◌, length, arith}
use Rattle.bits_core.specs.Word.{number}
use Rattle.bits_core.proofs.Shifts.{bits-shift_left, shift_left_out}
use Rattle.bits_core.proofs.Storage.{bits_wrapped, bits-zero}
use Rattle.bits_core.proofs.Bits.shl.Goals as goal
use Rattle.bits_core.proofs.Bits.shl.Goals.{then-amount-from, else-amount-from}

pub returns : goal.returns
returns c =
    elim c.if-amount-from.branch [
      | then-amount-from w ↦
          cc (w.moved-is, bits_wrapped c.width-2.result (number c.args.self.now * 2 ^ number c.args.b.now) c.width-2.ensures.most, bits-shift_left c.args.self.now (number c.args.b.now))
      | else-amount-from w ↦
          let out : length c.args.self.now ≤ number c.args.b.now = omega arith in
          cc (w.moved-is, bits-zero c.width-2.result, shift_left_out c.args.self.now (number c.args.b.now) out)
    ]
