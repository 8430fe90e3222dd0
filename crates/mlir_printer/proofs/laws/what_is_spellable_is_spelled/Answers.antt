use Rattle.mlir_printer.proofs.lexed.LexedModules.{spellable_texts_are_spelled}
use Rattle.mlir_printer.proofs.laws.what_is_spellable_is_spelled.Goals as goal

pub returns : goal.returns
returns c = spellable_texts_are_spelled
