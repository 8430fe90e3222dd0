-- What is read of attributes and dictionaries is said by their tokens.
use Rattle.std.proofs.Common.{◌≡◌, ◌⊎◌, ℕ, zero, suc, Bool, true, false, cond, List, [], ◌∷◌, ◌++◌, length, Some, None, Ok, Err, refl, sym, ◌∙◌, ap, subst, inl, inr, ℤ}
use Rattle.std.specs.Prelude.{codes}
use Rattle.std.proofs.lemmas.Bool.{cond_both}
use Rattle.std.proofs.lemmas.List.{append-nil}
use Rattle.diag.specs.declared.refusal.OpName.{OpName}
use Rattle.hw_model.specs.Types.{Name}
use Rattle.hw_model.specs.Types.HwType.{int}
use Rattle.hw_model.specs.Design.{Attribute, Entry}
use Rattle.hw_model.specs.Design.Attribute.{unit_value, text_value, symbol_value, truth_value, integer_value, list_value}
use Rattle.mlir_lexer.specs.Contents.{content_of}
use Rattle.mlir_lexer.specs.Tokens.{TextToken}
use Rattle.mlir_lexer.specs.declared.token.TokenKind.TheVariants as kind
use Rattle.mlir_syntax.specs.Stream.{StreamToken, token, bad, end, is_word, is_next, unexpected_refusal}
use Rattle.mlir_lexer.specs.TokenKinds.{is_kind}
use Rattle.mlir_syntax.specs.Reads.{Reads, on, give, items_until}
use Rattle.mlir_syntax.specs.Numerals.{integer}
use Rattle.mlir_syntax.specs.TypeText.{type_text, too_deep, name_text}
use Rattle.mlir_syntax.specs.AttributeText.{AttributeHead, text_head, symbol_head, truth_head, number_head, list_head, alias_head, no_head, is_symbol, begins_integer, attribute_head, is_stored}
use Rattle.mlir_syntax.specs.AttributeText.{stored_integer, integer_type, typed_integer, in_order, list_text, attribute_with, attribute_text, is_among, new_key, string_value, value_of_key}
use Rattle.mlir_syntax.specs.AttributeText.{entry_value, entry_text, entries, dictionary_text, maybe_dictionary}
use Rattle.mlir_syntax.specs.Spelling.{Phrase, Mark, Holding, Then, Where, Commas, Between, NamePhrase, SymbolPhrase, IntegerPhrase, TruthWord, IntegerType, AttributeWith, AttributePhrase}
use Rattle.mlir_syntax.specs.Spelling.{ValuePhrase, EntryPhrase, AreOnce, DictionaryPhrase, MaybeDictionary}
use Rattle.mlir_syntax.proofs.Sound.{Said, Sound, Past, ok_of, same_ok, one_more, sound_on, sound_last, sound_as, sound_give, sound_refused, sound_if, sound_past}
use Rattle.mlir_syntax.proofs.SoundTokens.{pair, mark, kind_is, said_mark, said_word, either_holds, kept_ok, barred_ok, sound_want, sound_name, sound_integer, sound_until, Several, more, all_of}
use Rattle.mlir_syntax.proofs.SoundTypes.{sound_type}

-- ---- what a token begins an attribute as

abbrev HeadSays : TextToken → AttributeHead → Type 0
HeadSays t (text_head text) = (t.kind ≡ kind.StringLiteral) × (content_of kind.StringLiteral t.text ≡ text)
HeadSays t (symbol_head name) = SymbolPhrase name (t ∷ [])
HeadSays t (truth_head b) = TruthWord b (t ∷ [])
HeadSays t number_head = Unit {0}
HeadSays t list_head = Mark kind.LeftBracket (t ∷ [])
HeadSays t alias_head = Unit {0}
HeadSays t no_head = Unit {0}

head_says : (t : TextToken) → HeadSays t (attribute_head (Some t))
head_says t =
    cond_both (is_kind t.kind kind.StringLiteral) (text_head (content_of kind.StringLiteral t.text)) _ (HeadSays t) (λ h. (kind_is t.kind kind.StringLiteral h, refl)) (λ _.
    cond_both (begins_integer t) number_head _ (HeadSays t) (λ _. tt) (λ _.
    cond_both (is_word (codes "true") t) (truth_head true) _ (HeadSays t) (λ h. said_word h) (λ _.
    cond_both (is_word (codes "false") t) (truth_head false) _ (HeadSays t) (λ h. said_word h) (λ _.
    cond_both (is_symbol t) (symbol_head (content_of t.kind t.text)) _ (HeadSays t)
    (λ h. either_holds kind.SymbolName kind.SymbolString t (is_kind t.kind kind.SymbolName) refl h) (λ _.
    cond_both (is_kind t.kind kind.LeftBracket) list_head _ (HeadSays t) (λ h. said_mark h) (λ _.
    cond_both (is_kind t.kind kind.AttributeAlias) alias_head no_head (HeadSays t) (λ _. tt) (λ _. tt)))))))

-- ---- integers

stored_ok : (op : OpName) (s left : List StreamToken) (z : ℤ) → stored_integer op s ≡ Ok (z, left) → Said (Where (is_stored z ≡ true) (IntegerPhrase z)) s left
unfolding stored_integer
stored_ok op s left z h =
    let (y, m, e, k) = ok_of (integer op s) _ z left h in
    let (a, ea, p) = (sound_integer op).said s m y e in
    kept_ok (λ x l. Said (Where (is_stored x ≡ true) (IntegerPhrase x)) s l) (is_stored y) y z m left _ (λ c. (a, ea, (c, p))) k

sound_stored : (op : OpName) → Sound (stored_integer op) (λ z. Where (is_stored z ≡ true) (IntegerPhrase z))
sound_stored op = record { said = stored_ok op }

sound_integer_type : (room : ℕ) (op : OpName) → Sound (integer_type room op) (IntegerType room)
unfolding integer_type
sound_integer_type room op =
    sound_past {r = type_text room op} (λ t h. sound_as (sound_type room op) (λ x a p. inl (pair (t ∷ []) a (said_mark h) p)))
    (sound_give {y = int 64} (inr (refl, refl)))

sound_typed : (L : List Attribute → Phrase) (room : ℕ) (op : OpName) → Sound (typed_integer room op) (AttributeWith L room)
unfolding typed_integer
sound_typed L room op =
    sound_on (sound_stored op) (λ z. sound_last (λ t. integer_value z t) (sound_integer_type room op) (λ t b pb a pa. (pa.0, pair a b pa.1 pb)))

-- ---- attributes

list_after : {value : Reads Attribute} {P : Attribute → Phrase} (room : ℕ) (op : OpName) (t0 : TextToken) → Mark kind.LeftBracket (t0 ∷ []) → Sound value P
    → Sound (λ s. on (items_until op kind.RightBracket value s) (λ vs left. Ok (list_value (in_order vs), left)))
    (λ y. Past t0 (AttributeWith (λ l. Between kind.LeftBracket kind.RightBracket (Commas P l)) room y))
list_after room op t0 m one =
    sound_last (λ vs. list_value (in_order vs)) (sound_until op kind.RightBracket one) (λ vs a pa. (vs, refl, pair (t0 ∷ []) a m pa))

with_ok : (L : List Attribute → Phrase) (lists : Reads Attribute) (room : ℕ) (op : OpName) (t : TextToken) (ts left : List StreamToken) (x : Attribute) (head : AttributeHead)
    → (Mark kind.LeftBracket (t ∷ []) → lists (token t ∷ ts) ≡ Ok (x, left) → Said (AttributeWith L room x) (token t ∷ ts) left)
    → HeadSays t head → attribute_with lists room op (token t ∷ ts) head ≡ Ok (x, left) → Said (AttributeWith L room x) (token t ∷ ts) left
unfolding attribute_with
with_ok L lists room op t ts left x (text_head text) ls says h =
    same_ok (text_value text) x ts left (λ z l. Said (AttributeWith L room z) (token t ∷ ts) l) h (t ∷ [], refl, (t, refl, says))
with_ok L lists room op t ts left x (symbol_head name) ls says h =
    same_ok (symbol_value name) x ts left (λ z l. Said (AttributeWith L room z) (token t ∷ ts) l) h (t ∷ [], refl, says)
with_ok L lists room op t ts left x (truth_head b) ls says h =
    same_ok (truth_value b) x ts left (λ z l. Said (AttributeWith L room z) (token t ∷ ts) l) h (t ∷ [], refl, says)
with_ok L lists room op t ts left x number_head ls says h = (sound_typed L room op).said (token t ∷ ts) left x h
with_ok L lists room op t ts left x list_head ls says h = ls says h
with_ok L lists room op t ts left x alias_head ls says h = absurd cc
with_ok L lists room op t ts left x no_head ls says h = absurd cc

plain_ok : (op : OpName) (s left : List StreamToken) (x : Attribute) → attribute_text zero op s ≡ Ok (x, left) → Said (AttributePhrase zero x) s left
unfolding attribute_with too_deep
plain_ok op [] left x h = absurd cc
plain_ok op (token t ∷ ts) left x h = with_ok (λ l a. ⊥) (too_deep op) zero op t ts left x (attribute_head (Some t)) (λ w e. absurd cc) (head_says t) h
plain_ok op (bad p ∷ ts) left x h = absurd cc
plain_ok op (end p ∷ ts) left x h = absurd cc

suc_ok : (room : ℕ) (op : OpName) → Sound (attribute_text room op) (AttributePhrase room) → (s left : List StreamToken) (x : Attribute)
    → attribute_text (suc room) op s ≡ Ok (x, left) → Said (AttributePhrase (suc room) x) s left
unfolding attribute_with list_text
suc_ok room op inner [] left x h = absurd cc
suc_ok room op inner (token t ∷ ts) left x h =
    with_ok (λ l. Between kind.LeftBracket kind.RightBracket (Commas (AttributePhrase room) l)) (list_text (attribute_text room op) op) (suc room) op t ts left x
    (attribute_head (Some t)) (λ w e. one_more t ts left (AttributePhrase (suc room) x) ((list_after (suc room) op t w inner).said ts left x e)) (head_says t) h
suc_ok room op inner (bad p ∷ ts) left x h = absurd cc
suc_ok room op inner (end p ∷ ts) left x h = absurd cc

pub sound_attribute : (room : ℕ) (op : OpName) → Sound (attribute_text room op) (AttributePhrase room)
sound_attribute zero op = record { said = plain_ok op }
sound_attribute (suc room) op = record { said = suc_ok room op (sound_attribute room op) }

-- ---- dictionaries

key_ok : (op : OpName) (keys : List Name) (s left : List StreamToken) (x : Name) → new_key op keys s ≡ Ok (x, left)
    → Said (Where (is_among x keys ≡ false) (NamePhrase x)) s left
unfolding new_key
key_ok op keys s left x h =
    let (y, m, e, k) = ok_of (name_text op s) _ x left h in
    let (a, ea, p) = (sound_name op).said s m y e in
    barred_ok (λ z l. Said (Where (is_among z keys ≡ false) (NamePhrase z)) s l) (is_among y keys) y x m left _ (λ c. (a, ea, (c, p))) k

sound_key : (op : OpName) (keys : List Name) → Sound (new_key op keys) (λ x. Where (is_among x keys ≡ false) (NamePhrase x))
sound_key op keys = record { said = key_ok op keys }

-- a string as a value
abbrev StringPhrase : Attribute → Phrase
StringPhrase v ts = (text : Name) × (v ≡ text_value text) × Holding kind.StringLiteral text ts

sound_string : (op : OpName) → Sound (string_value op) StringPhrase
unfolding string_value
sound_string op =
    sound_last (λ t. text_value (content_of kind.StringLiteral t.text)) (sound_want op kind.StringLiteral)
    (λ t a p. (content_of kind.StringLiteral t.text, refl, (t, p.0, (p.1, refl))))

abbrev entry_of : Name → Attribute → Entry
entry_of key v = record { key = key; value = v }

sound_value : (op : OpName) (strings : List Name) (key : Name) → Sound (value_of_key 32 op strings key) (λ v. ValuePhrase strings (entry_of key v))
unfolding value_of_key
sound_value op strings key = go (is_among key strings) refl
  where
    go : (b : Bool) → is_among key strings ≡ b
        → Sound (λ s. cond b (string_value op s) (attribute_text 32 op s)) (λ v. ValuePhrase strings (entry_of key v))
    go true e = sound_as (sound_string op) (λ v a p. inr (e, p))
    go false e = sound_as (sound_attribute 32 op) (λ v a p. inl (e, p))

-- what stands after a key
abbrev AfterKey : List Name → Name → Attribute → Phrase
AfterKey strings key v ts =
    Then (Mark kind.Equals) (ValuePhrase strings (entry_of key v)) ts ⊎ ((is_among key strings ≡ false) × (v ≡ unit_value) × (ts ≡ []))

sound_absent : (op : OpName) (strings : List Name) (key : Name) (b : Bool) → is_among key strings ≡ b
    → Sound (λ s. cond b (Err (unexpected_refusal op s)) (Ok (unit_value, s))) (AfterKey strings key)
sound_absent op strings key true e = sound_refused
sound_absent op strings key false e = sound_give {y = unit_value} (inr (e, refl, refl))

sound_entry_value : (op : OpName) (strings : List Name) (key : Name) → Sound (entry_value 32 op strings key) (AfterKey strings key)
unfolding entry_value
sound_entry_value op strings key =
    sound_past {r = value_of_key 32 op strings key} (λ t h. sound_as (sound_value op strings key) (λ v a p. inl (pair (t ∷ []) a (said_mark h) p)))
    (sound_absent op strings key (is_among key strings) refl)

said_entry : (strings : List Name) (key : Name) (v : Attribute) (a b : List TextToken) → NamePhrase key a → AfterKey strings key v b
    → EntryPhrase strings (entry_of key v) (a ++ b)
said_entry strings key v a b p (inl q) = inl (pair a b p q)
said_entry strings key v a b p (inr q) = inr ((q.0, q.1), subst (NamePhrase key) (sym (ap (λ y. a ++ y) q.2 ∙ append-nil a)) p)

sound_entry : (op : OpName) (strings keys : List Name)
    → Sound (entry_text 32 op strings keys) (λ e. Where (is_among e.key keys ≡ false) (EntryPhrase strings e))
unfolding entry_text
sound_entry op strings keys =
    sound_on (sound_key op keys) (λ key. sound_last (λ v. entry_of key v) (sound_entry_value op strings key)
    (λ v b pb a pa. (pa.0, said_entry strings key v a b pa.1 pb)))

sound_entries : (op : OpName) (strings keys : List Name) (n : ℕ)
    → Sound (entries 32 op strings keys n) (λ es. Where (AreOnce keys es) (Several (EntryPhrase strings) es))
unfolding entries
sound_entries op strings keys zero = record { said = λ s left x h. absurd cc }
sound_entries op strings keys (suc n) =
    sound_on (sound_entry op strings keys) (λ e.
    sound_past (λ t h. sound_last (λ es. e ∷ es) (sound_entries op strings (keys ++ e.key ∷ []) n)
    (λ es ts p a q. ((q.0, p.0), more (EntryPhrase strings) e t es ts a h p.1 q.1)))
    (sound_give {y = e ∷ []} (λ a q. ((q.0, tt), subst (EntryPhrase strings e) (sym (append-nil a)) q.1))))

all_entries : (op : OpName) (strings : List Name)
    → Sound (λ s. entries 32 op strings [] (length s) s) (λ es. Where (AreOnce [] es) (Several (EntryPhrase strings) es))
all_entries op strings = record { said = λ s left x h. (sound_entries op strings [] (length s)).said s left x h }

pub sound_dictionary : (op : OpName) (strings : List Name) → Sound (dictionary_text op strings) (DictionaryPhrase strings)
unfolding dictionary_text
sound_dictionary op strings =
    sound_on (sound_want op kind.LeftBrace) (λ _.
    sound_past {r = give []} (λ t h. sound_give {y = []} (λ a pa. (tt, pair a (t ∷ []) (mark pa) ([], t ∷ [], refl, refl, said_mark h))))
    (sound_on (all_entries op strings) (λ es. sound_last (λ _. es) (sound_want op kind.RightBrace) (λ _ c pc b pb a pa.
    (pb.0, pair a (b ++ c) (mark pa) (pair b c (all_of (EntryPhrase strings) es b pb.1) (mark pc)))))))

pub sound_maybe : (op : OpName) (strings : List Name) → Sound (maybe_dictionary op strings) (MaybeDictionary strings)
unfolding maybe_dictionary
sound_maybe op strings =
    sound_if (is_next kind.LeftBrace) (sound_last Some (sound_dictionary op strings) (λ es a p. p)) (sound_give {y = None} refl)
