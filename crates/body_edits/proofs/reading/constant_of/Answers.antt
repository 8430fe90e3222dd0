use Rattle.body_edits.proofs.ReadBodies.{maker_word}
use Rattle.body_edits.proofs.reading.constant_of.Goals as goal

pub word_of-requires : goal.word_of-requires
word_of-requires c = maker_word c.args.body.now c.args.value c.in-Some.op c.requires c.in-Some.ensures
