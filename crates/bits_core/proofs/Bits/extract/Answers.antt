use Rattle.std.proofs.Common.{◌≡◌, sym, ap, ◌∙◌, length, arith}
use Rattle.bits_core.specs.Word.{number}
use Rattle.bits_core.proofs.Numbers.{length-bits, number-bits-below, bits-extract}
use Rattle.bits_core.proofs.Bits.extract.Goals as goal

pub overflow_shr-self-inside : goal.overflow_shr-self-inside
overflow_shr-self-inside c =
    let wide : length c.args.self.now ≡ c.self.inside.width = ap length (sym c.self.view_is) ∙ length-bits _ _ in
    omega arith

pub truncate-requires-clause-most : goal.truncate-requires-clause-most
truncate-requires-clause-most c =
    let wide : length c.args.self.now ≡ c.self.inside.width = ap length (sym c.self.view_is) ∙ length-bits _ _ in
    omega arith

pub returns : goal.returns
returns c =
    let value : number c.args.self.now ≡ c.self.inside.value =
    ap number (sym c.self.view_is) ∙ number-bits-below _ _ c.self.invariant.2 in
    cc (value, bits-extract c.args.low c.args.width c.args.self.now c.requires.within)
