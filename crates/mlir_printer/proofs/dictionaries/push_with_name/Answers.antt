use Rattle.std.proofs.Common.{◌≡◌, ◌+◌, ◌++◌, map, take, drop, ap, ◌∙◌}
use Rattle.ir_store.specs.DictionaryViews.{entry_of}
use Rattle.mlir_printer.specs.Commas.{comma_bytes, items_from}
use Rattle.mlir_printer.specs.Attributes.{entry_bytes, slot_of_name}
use Rattle.mlir_printer.proofs.steps.Entries.{named_added, map_take, map_drop, rest_all}
use Rattle.mlir_printer.proofs.dictionaries.push_with_name.Goals as goal

pub returns : goal.returns
returns c =
    let es = map entry_of c.args.entries.now in
    let p = c.slot_of_name-slot.result in
    let e : p ≡ slot_of_name es = c.slot_of_name-slot.ensures.slot in
    named_added c.args.name.now es c.args.out.now c.push_bytes.new.self c.push_entries.new.out c.push_comma.new.out c.push_name_entry.new.out c.push_entries-2.new.out c.push_bytes-2.new.self
    c.in_ok-push_bytes.ensures.ok
    (c.in_ok-push_entries.ensures ∙ ap (λ l. c.push_bytes.new.self ++ items_from entry_bytes 0 l) (map_take entry_of p c.args.entries.now) ∙ ap (λ k. c.push_bytes.new.self ++ items_from entry_bytes 0 (take k es)) e)
    (c.in_ok-push_comma.ensures ∙ ap (λ k. c.push_entries.new.out ++ comma_bytes k) e)
    c.in_ok-push_name_entry.ensures
    (c.in_ok-push_entries-2.ensures ∙ ap (λ l. c.push_name_entry.new.out ++ items_from entry_bytes (p + 1) (map entry_of l)) (rest_all p c.args.entries.now)
    ∙ ap (λ l. c.push_name_entry.new.out ++ items_from entry_bytes (p + 1) l) (map_drop entry_of p c.args.entries.now)
    ∙ ap (λ k. c.push_name_entry.new.out ++ items_from entry_bytes (k + 1) (drop k es)) e)
    c.in_ok-push_bytes-2.ensures.ok
