use Rattle.std.proofs.Common.{◌≡◌, take, map}
use Rattle.ir_store.specs.DictionaryViews.{entry_of}
use Rattle.ir_store.proofs.dictionary.Dictionary.try_clone.Given as goal

abbrev pub invariant-loop-entry : goal.invariant-loop-entry
invariant-loop-entry l = map entry_of l.entries.items ≡ map entry_of (take l.entry-index l.entry-items)
