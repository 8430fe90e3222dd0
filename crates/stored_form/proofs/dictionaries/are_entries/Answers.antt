use Rattle.ir_store.specs.DictionaryViews.{entry_of}
use Rattle.mlir_syntax.specs.AttributeHeads.{keys_of}
use Rattle.stored_form.specs.Limits.{IsEntry}
use Rattle.stored_form.proofs.Lists.{not_each}
use Rattle.stored_form.proofs.dictionaries.are_entries.Goals as goal

pub returns-then-not-is_entry : goal.returns-then-not-is_entry
returns-then-not-is_entry c =
    not_each (IsEntry (keys_of c.args.strings)) entry_of c.args.entries.now c.loop-entry.entry-index c.entry-item.result c.is_entry.result c.loop-entry-test.true c.entry-item.is c.is_entry.ensures
    c.if-not-is_entry.true
