-- Entries of a dictionary by their keys.
use Rattle.std.proofs.Common.{◌≡◌, Bool, true, false, cond, List, [], ◌∷◌, map, refl, ap, ◌∙◌}
use Rattle.std.specs.Ordering.{nat_cmp, is_lt}
use Rattle.std.specs.Cmp.{IsStrictWeakOrder}
use Rattle.std.specs.Cmp.Lexicographic.{slice_cmp}
use Rattle.std.proofs.lemmas.Cmp.{nat_list_cmp_total}
use Rattle.std.proofs.lemmas.List.Sorted.{ranks_by}
use Rattle.ir_store.specs.DictionaryViews.{entry_of}
use Rattle.ir_store.specs.declared.dictionary.Entry.{Entry}
use Rattle.mlir_reader.specs.Resolving.{put_entry, sort_entries}
use Rattle.mlir_reader.proofs.Sorting.{put, in_order}

-- whether an entry's key is less
abbrev pub is_less : Entry → Entry → Bool
is_less a b = is_lt (slice_cmp nat_cmp a.key b.key)

pub is_order : IsStrictWeakOrder is_less
is_order = ranks_by nat_list_cmp_total (λ (e : Entry). e.key)

put_seen : (e : Entry) (es : List Entry) → map entry_of (put is_less is_order e es) ≡ put_entry (entry_of e) (map entry_of es)
put_seen e [] = refl
put_seen e (x ∷ xs) = go (is_less x e) (put_seen e xs)
  where
    go : (b : Bool) → map entry_of (put is_less is_order e xs) ≡ put_entry (entry_of e) (map entry_of xs) →
        map entry_of (cond b (x ∷ put is_less is_order e xs) (e ∷ x ∷ xs)) ≡ cond b (entry_of x ∷ put_entry (entry_of e) (map entry_of xs)) (entry_of e ∷ entry_of x ∷ map entry_of xs)
    go true r = ap (λ rest. entry_of x ∷ rest) r
    go false r = refl

pub order_seen : (es : List Entry) → map entry_of (in_order is_less is_order es) ≡ sort_entries (map entry_of es)
order_seen [] = refl
order_seen (e ∷ es) = put_seen e (in_order is_less is_order es) ∙ ap (put_entry (entry_of e)) (order_seen es)
