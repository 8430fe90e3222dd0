use Rattle.std.proofs.Common.{◌≡◌, ◌++◌, map, take}
use Rattle.name_legalise.specs.Legal.{name_byte}
use Rattle.name_legalise.proofs.cleaning.clean.Given as goal

abbrev pub invariant-loop-byte : goal.invariant-loop-byte
invariant-loop-byte l = l.name.items ≡ l.initial.name.items ++ map name_byte (take l.byte-index l.wanted)
