use Rattle.std.proofs.Common.{nat_eq, sym, ◌∙◌}
use Rattle.std.specs.Cmp.Lexicographic.{pointwise}
use Rattle.ir_store.proofs.DesignLemmas.{none_copied, insert_absent, lookup_push}
use Rattle.ir_store.proofs.design.note_symbol.Goals as goal

pub returns-clause-ok : goal.returns-clause-ok
returns-clause-ok c =
    let none = none_copied c.get.result _ c.get.ensures.value (sym c.is_some.ensures ∙ c.if-is_some.false) in
    let here = rw (← c.in_ok-key.ensures.items) at none in
    let entries = c.in_ok-insert.ensures.entries ∙ insert_absent _ c.args.symbols.now.entries c.in_ok-key.key c.args.number here in
    λ q. rw (entries, ← c.in_ok-key.ensures.items) (lookup_push (λ k. pointwise nat_eq q k.items) c.args.symbols.now.entries c.in_ok-key.key c.args.number)
