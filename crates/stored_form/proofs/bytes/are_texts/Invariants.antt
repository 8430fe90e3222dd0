use Rattle.std.proofs.Common.{take}
use Rattle.stored_form.specs.Bytes.{Each, AreBytes}
use Rattle.stored_form.proofs.bytes.are_texts.Given as goal

abbrev pub invariant-loop-text : goal.invariant-loop-text
invariant-loop-text l = Each AreBytes (take l.text-index l.texts)
