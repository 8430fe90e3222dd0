use Rattle.std.proofs.Common.{◌≡◌, ◌++◌, map}
use Rattle.ir_store.specs.DictionaryViews.{entry_of}
use Rattle.mlir_reader.specs.Resolving.{without}
use Rattle.stored_form.specs.Dictionaries.{is_dropped}
use Rattle.mlir_reader.proofs.dictionaries.entries_without.Given as goal

abbrev pub invariant-loop-entry : goal.invariant-loop-entry
invariant-loop-entry l =
    map entry_of l.kept.items ++ without (is_dropped l.name) (map entry_of l.entry-iterator.rest.items)
    ≡ without (is_dropped l.name) (map entry_of l.fn.dictionary.entries.items)
