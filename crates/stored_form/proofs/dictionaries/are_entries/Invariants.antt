use Rattle.std.proofs.Common.{take, map}
use Rattle.ir_store.specs.DictionaryViews.{entry_of}
use Rattle.mlir_syntax.specs.AttributeHeads.{keys_of}
use Rattle.stored_form.specs.Bytes.{Each}
use Rattle.stored_form.specs.Limits.{IsEntry}
use Rattle.stored_form.proofs.dictionaries.are_entries.Given as goal

abbrev pub invariant-loop-entry : goal.invariant-loop-entry
invariant-loop-entry l = Each (IsEntry (keys_of l.strings)) (map entry_of (take l.entry-index l.entries))
