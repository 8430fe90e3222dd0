use Rattle.std.proofs.Common.{◌≡◌, map, drop, codes}
use Rattle.ir_store.specs.DictionaryViews.{entry_of}
use Rattle.verilog_expr.specs.Spilling.{text_at}
use Rattle.verilog_expr.proofs.nesting.hint_in.Given as goal

abbrev pub invariant-loop-entry : goal.invariant-loop-entry
invariant-loop-entry l = text_at (codes "sv.namehint") (map entry_of (drop l.entry-index l.entries)) ≡ text_at (codes "sv.namehint") (map entry_of l.entries)
