use Rattle.std.proofs.Common.{◌↔◌, map, length}
use Rattle.ir_store.specs.DictionaryViews.{entry_of}
use Rattle.stored_form.specs.Dictionaries.{AreInOrder}
use Rattle.stored_form.proofs.dictionaries.are_in_order.Given as goal

abbrev pub invariant-loop-first : goal.invariant-loop-first
invariant-loop-first l = AreInOrder (map entry_of l.entries) ↔ AreInOrder (map entry_of l.rest)

abbrev pub decreases-loop-first : goal.decreases-loop-first
decreases-loop-first l = length l.rest
