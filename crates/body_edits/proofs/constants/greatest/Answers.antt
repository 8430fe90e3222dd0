use Rattle.std.proofs.Common.{◌≡◌, ◌-◌, arith, refl}
use Rattle.std.proofs.lemmas.Nat.Bits.{ones_shr}
use Rattle.body_edits.proofs.constants.greatest.Goals as goal

pub returns : goal.returns
returns c =
    let e : 128 - (128 - c.args.width) ≡ c.args.width = omega arith in
    rw (ones_shr 128 (128 - c.args.width) (omega arith), e) refl
