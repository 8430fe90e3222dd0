use Rattle.std.proofs.Common.{◌≡◌, take, map}
use Rattle.ir_store.specs.DictionaryViews.{entry_of}
use Rattle.inline_pass.specs.Renaming.{renamed_entry}
use Rattle.inline_pass.proofs.renamed_ops.renamed_dictionary.Given as goal

abbrev pub invariant-loop-entry : goal.invariant-loop-entry
invariant-loop-entry l = map entry_of l.entries.items ≡ map (renamed_entry l.instance) (map entry_of (take l.entry-index l.entry-items))
