use Rattle.std.proofs.Common.{◌≡◌, ◌^◌, false, sym, ◌∙◌, arith}
use Rattle.std.specs.Prelude.{nat_lt, nat_le}
use Rattle.std.proofs.lemmas.Bool.{le-ltb}
use Rattle.op_checks.proofs.Widths.{reaches_high}
use Rattle.op_checks.proofs.literal_checks.reaches.Goals as goal

pub returns-else-exponent-lt128 : goal.returns-else-exponent-lt128
returns-else-exponent-lt128 c =
    let p : nat_lt c.args.exponent 128 ≡ false = le-ltb c.args.exponent 128 c.if-exponent-lt128.false in
    let q : nat_le (2 ^ c.args.exponent) c.args.number ≡ false = reaches_high c.args.exponent c.args.number c.if-exponent-lt128.false (omega arith) in
    p ∙ sym q
