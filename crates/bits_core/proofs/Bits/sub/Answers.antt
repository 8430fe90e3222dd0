use Rattle.std.proofs.Common.{◌≤◌, ◌^◌, arith}
use Rattle.bits_core.proofs.Storage.{bits_wrapped_sub}
use Rattle.bits_core.proofs.Bits.sub.Goals as goal

pub returns : goal.returns
returns c =
    let fits : c.value-2.result ≤ 2 ^ 128 = omega arith in
    cc (bits_wrapped_sub c.width.result c.value.result c.value-2.result c.width.ensures.most fits)
