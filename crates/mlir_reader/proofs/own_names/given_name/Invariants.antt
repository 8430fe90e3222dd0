use Rattle.std.proofs.Common.{◌≡◌, map, drop}
use Rattle.ir_store.specs.DictionaryViews.{entry_of}
use Rattle.mlir_reader.specs.Resolving.{given_name}
use Rattle.mlir_reader.proofs.own_names.given_name.Given as goal

abbrev pub invariant-loop-entry : goal.invariant-loop-entry
invariant-loop-entry l = given_name (map entry_of l.entry-items) ≡ given_name (map entry_of (drop l.entry-index l.entry-items))
