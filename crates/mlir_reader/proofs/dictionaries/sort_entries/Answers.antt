use Rattle.std.proofs.Common.{map, ap, ◌∙◌, rules}
use Rattle.std.proofs.lemmas.List.Sorted.{answers_always}
use Rattle.ir_store.specs.DictionaryViews.{entry_of}
use Rattle.mlir_reader.proofs.Sorting.{sorted_is}
use Rattle.mlir_reader.proofs.KeyOrder.{is_less, is_order, order_seen}
use Rattle.mlir_reader.proofs.dictionaries.sort_entries.Goals as goal

pub returns : goal.returns
returns c =
    ap (map entry_of) (sorted_is is_less is_order c.args.entries.items c.sort_by.new.self.items
    (c.in_ok-sort_by.ensures.sorted is_less is_order (answers_always _ _ _ (λ f a r g h. search rules)))
    (c.sort_by.ensures.stable is_less is_order (answers_always _ _ _ (λ f a r g h. search rules))))
    ∙ order_seen c.args.entries.items
