-- A printed dictionary is kept as it is, and gives an operation its own name.
use Rattle.std.proofs.Common.{◌≡◌, Bool, true, false, cond, ◌&&◌, List, [], ◌∷◌, length, refl, ap, ◌∙◌, sym}
use Rattle.std.specs.Prelude.{nat_eq, Some, None}
use Rattle.std.specs.Cmp.{IsStrictWeakOrder}
use Rattle.std.proofs.lemmas.Bool.{cond-true, cond-false}
use Rattle.std.proofs.lemmas.Cmp.{nat_list_cmp_total}
use Rattle.std.proofs.lemmas.List.Sorted.{ranks_by}
use Rattle.opcode.specs.declared.listed.Listed.{Listed}
use Rattle.hw_model.specs.Types.{Name}
use Rattle.hw_model.specs.Design.{Entry, same_name}
use Rattle.hw_model.specs.Equality.{name_from}
use Rattle.mlir_lexer.specs.Classes.{is_digit}
use Rattle.mlir_lexer.specs.Runs.{run}
use Rattle.mlir_reader.specs.Resolving.{put_entry, sort_entries, without, kept_entries, text_in, given_name, unless_digits, name_or}
use Rattle.stored_form.specs.Dictionaries.{is_empty_hint, has_name, is_name_entry, is_dropped}
use Rattle.mlir_printer.specs.Texts.{name_entry, named_entries, entries_shown}
use Rattle.stored_form.specs.Bytes.{Each}
use Rattle.stored_form.specs.Dictionaries.{AreInOrder}
use Rattle.mlir_reader.proofs.canonical.EntryOrder.{is_less, in_order_rest}
use Rattle.mlir_printer.proofs.names.GivenNames.{IsDigits, IsWord, digits_alone, word_not_digits}

-- ---- entries in order stay so

pub is_order : IsStrictWeakOrder is_less
is_order = ranks_by nat_list_cmp_total (λ (e : Entry). e.key)

put_prefix : (e : Entry) (es : List Entry) → AreInOrder (e ∷ es) → put_entry e es ≡ e ∷ es
put_prefix e [] h = refl
put_prefix e (f ∷ es) h = cond-false (is_less f e) (f ∷ put_entry e es) (e ∷ f ∷ es) (is_order.one_way e f h.0)

pub sorted_itself : (es : List Entry) → AreInOrder es → sort_entries es ≡ es
sorted_itself [] h = refl
sorted_itself (e ∷ es) h = ap (put_entry e) (sorted_itself es (in_order_rest e es h)) ∙ put_prefix e es h

without_none : (test : Entry → Bool) (es : List Entry) → Each (λ (e : Entry). test e ≡ false) es → without test es ≡ es
without_none test [] h = refl
without_none test (e ∷ es) h = cond-false (test e) (without test es) (e ∷ without test es) h.0 ∙ ap (λ l. e ∷ l) (without_none test es h.1)

-- an entry that is dropped makes no difference
without_put : (test : Entry → Bool) (e : Entry) (es : List Entry) → test e ≡ true → without test (put_entry e es) ≡ without test es
without_put test e [] h = cond-true (test e) [] (e ∷ []) h
without_put test e (f ∷ es) h = go (is_less f e) (without_put test e es h)
  where
    go : (b : Bool) → without test (put_entry e es) ≡ without test es
        → without test (cond b (f ∷ put_entry e es) (e ∷ f ∷ es)) ≡ without test (f ∷ es)
    go true r = ap (λ l. cond (test f) l (f ∷ l)) r
    go false r = cond-true (test e) (without test (f ∷ es)) (e ∷ without test (f ∷ es)) h

pub kept_itself : (o : Listed) (es : List Entry) → AreInOrder es → Each (λ (e : Entry). is_dropped o e ≡ false) es → kept_entries o es ≡ es
kept_itself o es up kept = ap sort_entries (without_none (is_dropped o) es kept) ∙ sorted_itself es up

name_dropped : (o : Listed) (own : Name) → has_name o ≡ true → is_dropped o (name_entry own) ≡ true
name_dropped o own h = ap (λ b. b && true) h

-- the entries that are shown are kept as those that they were
pub shown_kept : (o : Listed) (own printed : Name) (es : List Entry) → AreInOrder es → Each (λ (e : Entry). is_dropped o e ≡ false) es
    → (has_name o ≡ false → own ≡ []) → kept_entries o (entries_shown own printed es) ≡ es
shown_kept o [] printed es up kept named = kept_itself o es up kept
shown_kept o (b ∷ bs) printed es up kept named = go (same_name (b ∷ bs) printed)
  where
    has : (t : Bool) → has_name o ≡ t → has_name o ≡ true
    has true e = e
    has false e = let f : b ∷ bs ≡ [] = named e in cc

    go : (t : Bool) → kept_entries o (cond t es (named_entries (b ∷ bs) es)) ≡ es
    go true = kept_itself o es up kept
    go false = ap sort_entries (without_put (is_dropped o) (name_entry (b ∷ bs)) es (name_dropped o (b ∷ bs) (has (has_name o) refl))) ∙ kept_itself o es up kept

-- ---- own names

-- what is kept gives no name, where the operation has one of its own
pub none_given : (o : Listed) (es : List Entry) → has_name o ≡ true → Each (λ (e : Entry). is_dropped o e ≡ false) es
    → Each (λ (e : Entry). is_name_entry e ≡ false) es
none_given o [] h kept = tt
none_given o (e ∷ es) h kept = (
  go (is_empty_hint e) (is_name_entry e)
      (ap (λ b. cond (is_empty_hint e) true (b && is_name_entry e)) (sym h) ∙ kept.0),
  none_given o es h kept.1,
)
  where
    go : (b c : Bool) → cond b true (true && c) ≡ false → c ≡ false
    go true c e = cc
    go false c e = e

pub no_name : (es : List Entry) → Each (λ (e : Entry). is_name_entry e ≡ false) es → given_name es ≡ None
no_name [] h = refl
no_name (e ∷ es) h = cond-false (is_name_entry e) (Some (text_in e.value)) (given_name es) h.0 ∙ no_name es h.1

name_put : (own : Name) (es : List Entry) → Each (λ (e : Entry). is_name_entry e ≡ false) es → given_name (named_entries own es) ≡ Some own
name_put own [] h = refl
name_put own (e ∷ es) h = go (is_less e (name_entry own)) (name_put own es h.1)
  where
    go : (b : Bool) → given_name (named_entries own es) ≡ Some own
        → given_name (cond b (e ∷ named_entries own es) (name_entry own ∷ e ∷ es)) ≡ Some own
    go true r = cond-false (is_name_entry e) (Some (text_in e.value)) (given_name (named_entries own es)) h.0 ∙ r
    go false r = refl

-- the name that is printed suits an own name
abbrev pub SuitsOwn : Name → Name → Type 0
SuitsOwn [] printed = IsDigits printed
SuitsOwn (b ∷ bs) printed = IsWord printed

pub own_again : (own printed : Name) (es : List Entry) → Each (λ (e : Entry). is_name_entry e ≡ false) es → SuitsOwn own printed
    → name_or (given_name (entries_shown own printed es)) (unless_digits printed) ≡ own
own_again [] printed es none suits =
    ap (λ o. name_or o (unless_digits printed)) (no_name es none)
    ∙ cond-true (nat_eq (run is_digit printed) (length printed)) [] printed (digits_alone printed suits)
own_again (b ∷ bs) printed es none suits = go (same_name (b ∷ bs) printed) refl
  where
    go : (t : Bool) → same_name (b ∷ bs) printed ≡ t → name_or (given_name (cond t es (named_entries (b ∷ bs) es))) (unless_digits printed) ≡ b ∷ bs
    go true e =
        ap (λ o. name_or o (unless_digits printed)) (no_name es none)
        ∙ cond-false (nat_eq (run is_digit printed) (length printed)) [] printed (word_not_digits printed suits)
        ∙ sym (name_from (b ∷ bs) printed e)
    go false e = ap (λ o. name_or o (unless_digits printed)) (name_put (b ∷ bs) es none)
