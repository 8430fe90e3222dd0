use Rattle.std.proofs.Common.{ap, ◌∙◌, arith, length, ◌≡◌, ◌+◌, ◌*◌, take, get_or, false}
use Rattle.std.proofs.lemmas.List.{take_all}
use Rattle.bits_core.specs.Word.{number, bits}
use Rattle.bits_core.proofs.Numbers.{bits-number}
use Rattle.miter_blast.proofs.WordNumbers.{number_more, bit_most, prefix_below}
use Rattle.miter_blast.proofs.input.word_of.Goals as goal

pub overflow_mul-value : goal.overflow_mul-value
overflow_mul-value c =
    let below = prefix_below c.args.bits.now c.loop-bit.bit-index c.loop-bit-test.true c.requires.few in
    omega (arith, below, c.loop-bit.invariant)

pub overflow_add-value : goal.overflow_add-value
overflow_add-value c =
    let below = prefix_below c.args.bits.now c.loop-bit.bit-index c.loop-bit-test.true c.requires.few in
    let most = bit_most (get_or c.args.bits.now c.loop-bit.bit-index false) in
    omega (arith, below, c.loop-bit.invariant, c.bit_number.ensures, most)

pub loop-bit-preserved : goal.loop-bit-preserved
loop-bit-preserved c =
    let more = number_more c.args.bits.now c.loop-bit.bit-index c.loop-bit-test.true in
    let sum : c.loop-bit.value * 2 + c.bit_number.result ≡ number (take (c.loop-bit.bit-index + 1) c.args.bits.now) = omega (arith, more, c.loop-bit.invariant, c.bit_number.ensures) in
    sum

pub returns : goal.returns
returns c =
    let all = take_all c.loop-bit.bit-index c.args.bits.now (omega (arith, c.loop-bit-test.false)) in
    c.truncate.ensures ∙ ap (bits (length c.args.bits.now)) (c.loop-bit.invariant ∙ ap number all) ∙ bits-number c.args.bits.now
