use Rattle.std.proofs.Common.{map, codes, ap, sym, ◌∙◌}
use Rattle.hw_model.specs.Design.{same_name}
use Rattle.ir_store.specs.DictionaryViews.{entry_of}
use Rattle.verilog_expr.specs.Spilling.{text_at}
use Rattle.verilog_expr.proofs.PartsMarked.{hint_step, hint_here, hint_none}
use Rattle.verilog_expr.proofs.nesting.hint_in.Goals as goal

pub loop-entry-preserved : goal.loop-entry-preserved
loop-entry-preserved c =
    hint_step entry_of (codes "sv.namehint") c.args.entries.now c.loop-entry.entry-index c.entry-item.result (text_at (codes "sv.namehint") (map entry_of c.args.entries.now))
    c.loop-entry-test.true c.entry-item.is c.loop-entry.invariant
    (ap (λ k. same_name k (codes "sv.namehint")) (sym c.as_bytes.ensures) ∙ ap (same_name c.as_bytes.result.now) (sym c.as_slice.ensures) ∙ sym c.eq.ensures ∙ c.if-eq.false)

pub returns-then-eq : goal.returns-then-eq
returns-then-eq c =
    c.text_of.ensures ∙
    hint_here entry_of (codes "sv.namehint") c.args.entries.now c.loop-entry.entry-index c.entry-item.result (text_at (codes "sv.namehint") (map entry_of c.args.entries.now))
    c.loop-entry-test.true c.entry-item.is c.loop-entry.invariant
    (ap (λ k. same_name k (codes "sv.namehint")) (sym c.as_bytes.ensures) ∙ ap (same_name c.as_bytes.result.now) (sym c.as_slice.ensures) ∙ sym c.eq.ensures ∙ c.if-eq.true)

pub returns : goal.returns
returns c =
    hint_none entry_of (codes "sv.namehint") c.args.entries.now c.loop-entry.entry-index (text_at (codes "sv.namehint") (map entry_of c.args.entries.now))
    c.loop-entry-test.false c.loop-entry.invariant
