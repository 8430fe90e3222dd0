use Rattle.std.proofs.Common.{nat_eq, sym, ap, ◌∙◌}
use Rattle.std.specs.Prelude.{option_map, is_some}
use Rattle.std.specs.Cmp.Lexicographic.{pointwise}
use Rattle.std.specs.Map.{lookup}
use Rattle.std.proofs.Math.Path.{fun_ext}
use Rattle.indexmap.specs.IndexMap.{insert_entry}
use Rattle.mlir_reader.specs.Meanings.{defined_of, table_meanings, definition}
use Rattle.mlir_reader.proofs.Tables.{insert_absent, insert_again, found_push, kept_name}
use Rattle.mlir_reader.proofs.names.define_listed.Goals as goal

pub returns-in-None-clause-means : goal.returns-in-None-clause-means
returns-in-None-clause-means c =
    let none = sym c.in_ok-insert.ensures.old ∙ c.in-None.is in
    let entries = c.in_ok-insert.ensures.entries ∙ insert_absent _ c.args.table.now.entries c.args.name c.args.defined none in
    fun_ext (λ q. ap (λ es. option_map defined_of (lookup (λ k. pointwise nat_eq q k.now) es)) entries
    ∙ found_push defined_of (λ k. pointwise nat_eq q k.now) c.args.table.now.entries c.args.name c.args.defined)

-- what the name stood for is put back
pub returns-in_ok-insert-in-Some-clause-means : goal.returns-in_ok-insert-in-Some-clause-means
returns-in_ok-insert-in-Some-clause-means c =
    let old = c.args.table.now.entries in
    let there = sym c.in_ok-insert.ensures.old ∙ c.in-Some.is in
    let entries = c.in_ok-insert-in-Some.ensures.entries ∙ ap (λ es. insert_entry (λ x y. pointwise nat_eq x.now y.now) es c.args.name c.in-Some.known) c.in_ok-insert.ensures.entries
    ∙ insert_again (λ x y. pointwise nat_eq x.now y.now) old c.args.name c.in-Some.known c.args.defined there in
    fun_ext (λ q. ap (λ es. option_map defined_of (lookup (λ k. pointwise nat_eq q k.now) es)) entries
    ∙ kept_name (table_meanings old) (definition c.args.name.now c.args.defined) q (ap (λ o. is_some (option_map defined_of o)) there))
