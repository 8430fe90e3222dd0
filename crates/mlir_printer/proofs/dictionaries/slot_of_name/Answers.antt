use Rattle.std.proofs.Common.{map, arith, sym, ap, ◌∙◌}
use Rattle.std.specs.Prelude.{codes}
use Rattle.std.specs.Ordering.{nat_cmp, is_lt}
use Rattle.std.specs.Cmp.Lexicographic.{slice_cmp}
use Rattle.ir_store.specs.DictionaryViews.{entry_of}
use Rattle.mlir_printer.specs.Attributes.{slot_of_name}
use Rattle.mlir_printer.proofs.steps.Entries.{position_step, position_here}
use Rattle.mlir_printer.proofs.dictionaries.slot_of_name.Goals as goal

pub loop-i-preserved : goal.loop-i-preserved
loop-i-preserved c =
    position_step entry_of c.args.entries.now c.loop-i.i c.index-entries-i.result (slot_of_name (map entry_of c.args.entries.now)) (omega (arith, c.loop-i-test.true))
    c.index-entries-i.is c.loop-i.invariant
    (ap (λ k. is_lt (slice_cmp nat_cmp k (codes "name"))) (sym c.as_bytes.ensures) ∙ sym c.is_before_name.ensures ∙ c.if-not-is_before_name.false)

pub returns-then-not-is_before_name-clause-slot : goal.returns-then-not-is_before_name-clause-slot
returns-then-not-is_before_name-clause-slot c =
    position_here entry_of c.args.entries.now c.loop-i.i c.index-entries-i.result (slot_of_name (map entry_of c.args.entries.now)) (omega (arith, c.loop-i-test.true))
    c.index-entries-i.is c.loop-i.invariant
    (ap (λ k. is_lt (slice_cmp nat_cmp k (codes "name"))) (sym c.as_bytes.ensures) ∙ sym c.is_before_name.ensures ∙ c.if-not-is_before_name.true)
