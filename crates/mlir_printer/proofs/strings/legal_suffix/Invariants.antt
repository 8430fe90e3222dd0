use Rattle.std.proofs.Common.{◌≡◌, ◌∷◌, map, take}
use Rattle.mlir_printer.specs.Strings.{suffix_byte}
use Rattle.mlir_printer.proofs.strings.legal_suffix.Given as goal

abbrev pub invariant-loop-byte : goal.invariant-loop-byte
invariant-loop-byte l = l.text ≡ 95 ∷ map suffix_byte (take l.byte-index l.name)
