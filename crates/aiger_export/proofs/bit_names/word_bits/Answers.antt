use Rattle.std.proofs.lemmas.Slice.Zip.{either_empty_from_Zip}
use Rattle.aiger_export.specs.BitNames.{word_bits}
use Rattle.aiger_export.proofs.NameSteps.{words_ended}
use Rattle.aiger_export.proofs.bit_names.word_bits.Goals as goal

pub returns : goal.returns
returns c =
    words_ended c.loop-name.bits.items (word_bits c.args.names.now c.args.widths.now) c.loop-name.name-iterator.a.rest.now c.loop-name.name-iterator.b.rest.now
    (either_empty_from_Zip c.loop-name.name-iterator c.next.new.self c.next.result c.in-None.is c.next.ensures.steps) c.loop-name.invariant
