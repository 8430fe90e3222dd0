use Rattle.std.proofs.Common.{◌≡◌, ◌++◌}
use Rattle.aiger_export.specs.BitNames.{word_bits}
use Rattle.aiger_export.proofs.bit_names.word_bits.Given as goal

abbrev pub invariant-loop-name : goal.invariant-loop-name
invariant-loop-name l = l.bits.items ++ word_bits l.name-iterator.a.rest.now l.name-iterator.b.rest.now ≡ word_bits l.names l.widths
