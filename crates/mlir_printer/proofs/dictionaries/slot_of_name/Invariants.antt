use Rattle.std.proofs.Common.{◌≡◌, ◌+◌, map, drop}
use Rattle.ir_store.specs.DictionaryViews.{entry_of}
use Rattle.mlir_printer.specs.Attributes.{slot_of_name}
use Rattle.mlir_printer.proofs.dictionaries.slot_of_name.Given as goal

abbrev pub invariant-loop-i : goal.invariant-loop-i
invariant-loop-i l = l.i + slot_of_name (map entry_of (drop l.i l.entries)) ≡ slot_of_name (map entry_of l.entries)
