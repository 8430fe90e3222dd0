use Rattle.std.proofs.Common.{◌≡◌, ◌+◌, ◌++◌, drop}
use Rattle.ir_store.specs.DictionaryViews.{entry_of}
use Rattle.mlir_printer.specs.Commas.{items_from}
use Rattle.mlir_printer.specs.Attributes.{entry_bytes}
use Rattle.mlir_printer.proofs.dictionaries.push_entries.Given as goal

abbrev pub invariant-loop-i : goal.invariant-loop-i
invariant-loop-i l =
    l.out ++ items_from (λ x. entry_bytes (entry_of x)) (l.first + l.i) (drop l.i l.entries) ≡ l.initial.out ++ items_from (λ x. entry_bytes (entry_of x)) l.first l.entries
