-- After the last digit the number is whole; a prefix of 2^128 or more makes it so.
use Rattle.std.proofs.Common.{◌+◌, drop, get_or, ◌∙◌, ap}
use Rattle.std.proofs.lemmas.List.{drop_more}
use Rattle.mlir_syntax.specs.Numerals.{number_in}
use Rattle.mlir_syntax.proofs.Digits.{too_large, whole}
use Rattle.mlir_syntax.proofs.numerals.number_in.Goals as goal

pub returns-in-None : goal.returns-in-None
returns-in-None c =
    let ds = c.args.digits.now in
    let i = c.loop-digit.digit-index in
    too_large c.args.base c.loop-digit.number (get_or ds i 0) ds (drop (i + 1) ds) c.requires
    (c.loop-digit.invariant.same ∙ ap (number_in c.args.base c.loop-digit.number) (drop_more ds i 0 c.loop-digit-test.true)) c.in-None.ensures

pub returns : goal.returns
returns c = whole c.args.base c.loop-digit.number c.loop-digit.digit-index c.args.digits.now c.loop-digit.invariant c.loop-digit-test.false
