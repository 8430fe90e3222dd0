use Rattle.std.proofs.Common.{◌≤◌, length, arith}
use Rattle.bits_core.specs.Word.{number}
use Rattle.bits_core.proofs.Shifts.{bits-shift_right, shift_right_out}
use Rattle.bits_core.proofs.Storage.{bits-zero}
use Rattle.bits_core.proofs.Bits.shru.Goals as goal
use Rattle.bits_core.proofs.Bits.shru.Goals.{then-amount-from, else-amount-from}

pub returns : goal.returns
returns c =
    elim c.if-amount-from.branch [
      | then-amount-from w ↦
          cc (w.moved-is, bits-shift_right c.args.self.now (number c.args.b.now))
      | else-amount-from w ↦
          let out : length c.args.self.now ≤ number c.args.b.now = omega arith in
          cc (w.moved-is, bits-zero c.width-2.result, shift_right_out c.args.self.now (number c.args.b.now) out)
    ]
