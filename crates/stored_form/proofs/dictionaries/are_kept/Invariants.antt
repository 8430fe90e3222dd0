use Rattle.std.proofs.Common.{◌≡◌, false, take, map}
use Rattle.ir_store.specs.DictionaryViews.{entry_of}
use Rattle.stored_form.specs.Bytes.{Each}
use Rattle.stored_form.specs.Dictionaries.{is_dropped}
use Rattle.stored_form.proofs.dictionaries.are_kept.Given as goal

abbrev pub invariant-loop-entry : goal.invariant-loop-entry
invariant-loop-entry l = Each (λ e. is_dropped l.name e ≡ false) (map entry_of (take l.entry-index l.entries))
