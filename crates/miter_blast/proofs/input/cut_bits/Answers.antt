use Rattle.std.proofs.Common.{ap, arith, get_or, length}
use Rattle.miter_blast.proofs.Splits.{member_at, enough_at}
use Rattle.miter_blast.proofs.input.cut_bits.Goals as goal

pub word_of-requires-clause-some : goal.word_of-requires-clause-some
word_of-requires-clause-some c =
    let fits = c.requires.some (get_or c.args.widths.now c.loop-width.width-index 0) (member_at c.args.widths.now c.loop-width.width-index c.loop-width-test.true) in
    let has = enough_at c.args.widths.now c.loop-width.width-index c.loop-width.rest.now c.loop-width-test.true c.loop-width.invariant.enough in
    let prefix = ap length c.split_at.ensures.front in
    omega (arith, fits, has, prefix)

pub word_of-requires-clause-few : goal.word_of-requires-clause-few
word_of-requires-clause-few c =
    let fits = c.requires.some (get_or c.args.widths.now c.loop-width.width-index 0) (member_at c.args.widths.now c.loop-width.width-index c.loop-width-test.true) in
    let has = enough_at c.args.widths.now c.loop-width.width-index c.loop-width.rest.now c.loop-width-test.true c.loop-width.invariant.enough in
    let prefix = ap length c.split_at.ensures.front in
    omega (arith, fits, has, prefix)
