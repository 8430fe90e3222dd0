use Rattle.std.proofs.Common.{◌∷◌, map, ap, ◌∙◌, arith}
use Rattle.std.proofs.lemmas.List.{take_all}
use Rattle.mlir_printer.specs.Strings.{suffix_byte}
use Rattle.mlir_printer.proofs.strings.legal_suffix.Goals as goal

pub returns : goal.returns
returns c =
    c.loop-byte.invariant ∙ ap (λ xs. 95 ∷ map suffix_byte xs) (take_all c.loop-byte.byte-index c.args.name.now (omega (arith, c.loop-byte-test.false)))
