use Rattle.std.proofs.Common.{◌≡◌, false, refl}
use Rattle.hw_model.specs.Design.{Entry}
use Rattle.ir_store.specs.DictionaryViews.{entry_of}
use Rattle.stored_form.specs.Dictionaries.{is_dropped}
use Rattle.stored_form.proofs.Lists.{not_each}
use Rattle.stored_form.proofs.Kept.{dropped_told}
use Rattle.stored_form.proofs.dictionaries.are_kept.Goals as goal

pub returns-then-is_dropped : goal.returns-then-is_dropped
returns-then-is_dropped c =
    not_each (λ (e : Entry). is_dropped c.args.name e ≡ false) entry_of c.args.entries.now c.loop-entry.entry-index c.entry-item.result false c.loop-entry-test.true c.entry-item.is
    (dropped_told c.is_dropped.result (is_dropped c.args.name (entry_of c.entry-item.result)) c.is_dropped.ensures c.if-is_dropped.true) refl
