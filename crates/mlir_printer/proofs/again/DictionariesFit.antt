-- A printed dictionary can be read: its keys stand once, and its values where they may.
use Rattle.std.proofs.Common.{◌≡◌, Bool, true, false, cond, List, [], ◌∷◌, ◌++◌, refl, ap, ◌∙◌, sym, arith}
use Rattle.std.specs.Prelude.{⊤}
use Rattle.std.specs.Ordering.{nat_cmp, is_lt}
use Rattle.std.specs.Cmp.{IsStrictWeakOrder}
use Rattle.std.specs.Cmp.Lexicographic.{slice_cmp}
use Rattle.std.proofs.lemmas.Bool.{cond-false, false≢true}
use Rattle.std.proofs.lemmas.Cmp.{nat_list_cmp_total}
use Rattle.std.proofs.lemmas.List.Sorted.{ranks_by}
use Rattle.opcode.specs.declared.listed.Listed.{Listed}
use Rattle.hw_model.specs.Types.{Name}
use Rattle.hw_model.specs.Design.{Entry, same_name}
use Rattle.hw_model.specs.Equality.{name_from}
use Rattle.mlir_syntax.specs.AttributeText.{is_among}
use Rattle.mlir_syntax.specs.Spelling.{AreOnce}
use Rattle.stored_form.specs.Dictionaries.{has_name}
use Rattle.mlir_printer.specs.Texts.{name_entry, named_entries, entries_shown}
use Rattle.mlir_printer.specs.Spellable.{IsDictionary}
use Rattle.stored_form.specs.Bytes.{Each, AreBytes}
use Rattle.stored_form.specs.Limits.{IsEntry}
use Rattle.stored_form.specs.Dictionaries.{AreInOrder, IsKeptDictionary}
use Rattle.mlir_printer.proofs.again.EntriesKept.{none_given}
use Rattle.mlir_reader.proofs.canonical.EntryOrder.{put_in_order, each_put}

-- ---- keys that rise stand once

abbrev less : Name → Name → Bool
less a b = is_lt (slice_cmp nat_cmp a b)

order : IsStrictWeakOrder less
order = ranks_by nat_list_cmp_total (λ (n : Name). n)

through : (a b c : Name) → less a b ≡ true → less b c ≡ true → less a c ≡ true
through a b c h g = go (less a c) refl
  where
    go : (t : Bool) → less a c ≡ t → less a c ≡ true
    go true e = e
    go false e = absurd (false≢true (sym (order.chain a c b e (order.one_way b c g)) ∙ h))

not_same : (a b : Name) → less a b ≡ true → same_name a b ≡ false
not_same a b h = go (same_name a b) refl
  where
    go : (t : Bool) → same_name a b ≡ t → same_name a b ≡ false
    go false e = e
    go true e =
        let s : a ≡ b = name_from a b e in
        let itself : less a a ≡ true = ap (less a) s ∙ h in
        absurd (false≢true (sym (order.one_way a a itself) ∙ itself))

-- each of the keys is less
abbrev AreLess : List Name → Name → Type 0
AreLess ns key = Each (λ (n : Name). less n key ≡ true) ns

abbrev AreLessThanFirst : List Name → List Entry → Type 0
AreLessThanFirst ns [] = ⊤
AreLessThanFirst ns (e ∷ es) = AreLess ns e.key

not_among : (key : Name) (ns : List Name) → AreLess ns key → is_among key ns ≡ false
not_among key [] h = refl
not_among key (n ∷ ns) h = cond-false (same_name n key) true (is_among key ns) (not_same n key h.0) ∙ not_among key ns h.1

less_push : (ns : List Name) (key next : Name) → AreLess ns key → less key next ≡ true → AreLess (ns ++ key ∷ []) next
less_push [] key next h g = (g, tt)
less_push (n ∷ ns) key next h g = (through n key next h.0 g, less_push ns key next h.1 g)

once : (earlier : List Name) (es : List Entry) → AreInOrder es → AreLessThanFirst earlier es → AreOnce earlier es
once earlier [] up h = tt
once earlier (e ∷ []) up h = (not_among e.key earlier h, tt)
once earlier (e ∷ f ∷ es) up h = (not_among e.key earlier h, once (earlier ++ e.key ∷ []) (f ∷ es) up.1 (less_push earlier e.key f.key h up.0))

none_less : (es : List Entry) → AreLessThanFirst [] es
none_less [] = tt
none_less (e ∷ es) = tt

name_fits : (strings : List Name) (own : Name) → AreBytes own → IsEntry strings (name_entry own)
name_fits strings own h = record { key = (omega arith, (omega arith, (omega arith, (omega arith, tt)))); value = h }

-- ---- dictionaries

pub kept_fits : (o : Listed) (strings : List Name) (es : List Entry) → IsKeptDictionary o strings es → IsDictionary strings es
kept_fits o strings es h = record { once = once [] es h.in_order (none_less es); each = h.entries }

pub shown_fits : (o : Listed) (strings : List Name) (own printed : Name) (es : List Entry) → IsKeptDictionary o strings es
    → (has_name o ≡ false → own ≡ []) → AreBytes own → IsDictionary strings (entries_shown own printed es)
shown_fits o strings [] printed es h named bytes = kept_fits o strings es h
shown_fits o strings (b ∷ bs) printed es h named bytes = go (same_name (b ∷ bs) printed)
  where
    has : (t : Bool) → has_name o ≡ t → has_name o ≡ true
    has true e = e
    has false e = let f : b ∷ bs ≡ [] = named e in cc

    go : (t : Bool) → IsDictionary strings (cond t es (named_entries (b ∷ bs) es))
    go true = kept_fits o strings es h
    go false =
        let none = none_given o es (has (has_name o) refl) h.kept in
        let up = put_in_order (name_entry (b ∷ bs)) es h.in_order none in
        record {
          once = once [] (named_entries (b ∷ bs) es) up (none_less (named_entries (b ∷ bs) es));
          each = each_put (IsEntry strings) (name_entry (b ∷ bs)) es (name_fits strings (b ∷ bs) bytes) h.entries;
        }
