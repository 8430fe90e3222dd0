-- What the tokens of attributes and dictionaries say is read of them.
use Rattle.std.proofs.Common.{◌≡◌, ◌⊎◌, ℕ, zero, suc, ◌≤◌, Bool, true, false, List, [], ◌∷◌, ◌++◌, length, Option, Some, None, Ok, refl, sym, ◌∙◌, ap, inl, inr, ℤ, arith}
use Rattle.diag.specs.declared.refusal.OpName.{OpName}
use Rattle.hw_model.specs.Types.{Name, HwType}
use Rattle.hw_model.specs.Types.HwType.{int}
use Rattle.hw_model.specs.Design.{Attribute, Entry}
use Rattle.hw_model.specs.Design.Attribute.{unit_value, text_value, symbol_value, truth_value, integer_value, list_value}
use Rattle.mlir_lexer.specs.Tokens.{TextToken}
use Rattle.mlir_lexer.specs.declared.token.TokenKind.{TokenKind}
use Rattle.mlir_lexer.specs.declared.token.TokenKind.TheVariants as kind
use Rattle.mlir_syntax.specs.Stream.{StreamToken, token, first, is_next, after}
use Rattle.mlir_lexer.specs.TokenKinds.{is_kind}
use Rattle.mlir_syntax.specs.Reads.{Reads, items_until}
use Rattle.mlir_syntax.specs.TypeText.{type_text, too_deep, most_open}
use Rattle.mlir_syntax.specs.AttributeText.{text_head, symbol_head, truth_head, number_head, list_head, attribute_head, is_stored, stored_integer, integer_type, typed_integer, in_order, list_text}
use Rattle.mlir_syntax.specs.AttributeText.{attribute_with, attribute_text, is_among, new_key, string_value, value_of_key, entry_value, entry_text, entries, dictionary_text, maybe_dictionary}
use Rattle.mlir_syntax.specs.Spelling.{Phrase, Nothing, TypePhrase, Mark, Holding, Then, Where, Commas, Between, NamePhrase, IntegerPhrase, TruthWord, AttributeWith, AttributePhrase, ValuePhrase}
use Rattle.mlir_syntax.specs.Spelling.{EntryPhrase, AreOnce, DictionaryPhrase, MaybeDictionary}
use Rattle.mlir_syntax.proofs.Again.{At, at_then, at_one, at_where, at_nothing, at_either, on_ok, if_true, if_false, Leads, leads_one, leads_then, leads_where, leads_either, starts, shorter, Again, Any}
use Rattle.mlir_syntax.proofs.AgainTokens.{unlike, Unlike, mark_at, holding_at, next_at, no_next, again_name, again_integer, leads_holding, leads_name, leads_symbol, leads_integer, BeginsInteger}
use Rattle.mlir_syntax.proofs.AgainTokens.{integer_begins, leads_commas, until_at, no_mark, name_unlike}
use Rattle.mlir_syntax.proofs.AgainTypes.{again_type}

-- ---- tokens retold

-- what is said of a token of a kind is said of it as it stands
pub of_kind : {B : Type 0} (G : TextToken → B) {k : TokenKind} (t : TextToken) → t.kind ≡ k → G t ≡ G (record t { kind = k })
of_kind G {k} t e = ap (λ i. G (record t { kind = i })) e

pub of_text : {B : Type 0} (G : TextToken → B) {k : TokenKind} {text : List ℕ} (t : TextToken) → t.kind ≡ k → t.text ≡ text → G t ≡ G (record t { kind = k; text = text })
of_text G {k} {text} t e f = ap (λ i. G (record t { kind = i })) e ∙ ap (λ x. G (record t { kind = k; text = x })) f

-- what a reader sees by its first token
pub seen : {A H : Type 0} {t : TextToken} {s left : List StreamToken} (r : List StreamToken → H → A) (head : Option TextToken → H) (b : H) → s ≡ token t ∷ left → head (Some t) ≡ b
    → r s (head (first s)) ≡ r (token t ∷ left) b
seen {t} {s} {left} r head b e h = ap (λ y. r y (head (first y))) e ∙ ap (r (token t ∷ left)) h

-- ---- integers

-- no colon stands there
abbrev pub NoColon : List StreamToken → Type 0
NoColon s = is_next kind.Colon s ≡ false

stored_at : (op : OpName) {z : ℤ} {s left : List StreamToken} → is_stored z ≡ true → At (IntegerPhrase z) s left → stored_integer op s ≡ Ok (z, left)
unfolding stored_integer
stored_at op {z} {s} {left} small h = on_ok _ ((again_integer op).gives z s left h tt) (if_true _ small refl)

integer_type_at : (room : ℕ) (op : OpName) {x : HwType} {s left : List StreamToken} → NoColon left
    → At (Then (Mark kind.Colon) (TypePhrase room x)) s left ⊎ At (Where (x ≡ int 64) Nothing) s left → integer_type room op s ≡ Ok (x, left)
unfolding integer_type
integer_type_at room op {x} {s} {left} clear (inl h) =
    let (m, a, b) = at_then h in
    let (next, following) = next_at a in
    if_true _ next (ap (type_text room op) following ∙ (again_type room op).gives x m left b tt)
integer_type_at room op {x} {s} {left} clear (inr h) =
    let (e, p) = at_where h in
    let same = at_nothing p in
    if_false _ (ap (is_next kind.Colon) same ∙ clear) (ap (λ y. Ok (int 64, y)) same ∙ ap (λ y. Ok (y, left)) (sym e))

typed_at : (room : ℕ) (op : OpName) {z : ℤ} {x : HwType} {s left : List StreamToken} → NoColon left → At (AttributeWith (λ l ts. ⊥) room (integer_value z x)) s left
    → typed_integer room op s ≡ Ok (integer_value z x, left)
unfolding typed_integer
typed_at room op clear h =
    let (small, p) = at_where h in
    let (m, a, b) = at_then p in
    on_ok _ (stored_at op small a) (on_ok _ (integer_type_at room op clear (at_either b)) refl)

-- ---- attributes

-- no attribute begins with a closing bracket
abbrev OpensNot : TextToken → Type 0
OpensNot = Unlike kind.RightBracket

leads_with : (Lists : List Attribute → Phrase) (room : ℕ) → ((l : List Attribute) → Leads OpensNot (Lists l)) → (a : Attribute)
    → Leads OpensNot (AttributeWith Lists room a)
leads_with Lists room lists unit_value = record { lead = λ ts p. absurd p }
leads_with Lists room lists (text_value text) = leads_holding (unlike kind.RightBracket kind.StringLiteral refl)
leads_with Lists room lists (symbol_value name) = leads_symbol (unlike kind.RightBracket kind.SymbolName refl) (unlike kind.RightBracket kind.SymbolString refl)
leads_with Lists room lists (truth_value b) = leads_one (λ t p. unlike kind.RightBracket kind.BareName refl t p.0)
leads_with Lists room lists (integer_value z x) = leads_where (leads_then (leads_integer (unlike kind.RightBracket kind.Integer refl) (unlike kind.RightBracket kind.Minus refl)))
leads_with Lists room lists (list_value inner) = record { lead = λ ts p. (lists p.0).lead ts p.2 }

leads_attribute : (room : ℕ) (a : Attribute) → Leads OpensNot (AttributePhrase room a)
leads_attribute zero a = leads_with (λ l ts. ⊥) zero (λ l. record { lead = λ ts p. absurd p }) a
leads_attribute (suc room) a =
    leads_with (λ l. Between kind.LeftBracket kind.RightBracket (Commas (AttributePhrase room) l)) (suc room)
    (λ l. leads_then (leads_one (unlike kind.RightBracket kind.LeftBracket refl))) a

-- a list among other attributes
abbrev ListPhrase : (List Attribute → Phrase) → Attribute → Phrase
ListPhrase Lists (list_value inner) ts = (l : List Attribute) × (inner ≡ in_order l) × Lists l ts
ListPhrase Lists _ ts = ⊥

symbol_at : (lists : Reads Attribute) (room : ℕ) (op : OpName) (name : Name) {s left : List StreamToken}
    → At (Holding kind.SymbolName name) s left ⊎ At (Holding kind.SymbolString name) s left
    → attribute_with lists room op s (attribute_head (first s)) ≡ Ok (symbol_value name, left)
unfolding attribute_with
symbol_at lists room op name (inl h) =
    let (t, e, p) = at_one h in
    seen (attribute_with lists room op) attribute_head (symbol_head name) e (of_kind (λ t. attribute_head (Some t)) t p.0 ∙ ap symbol_head p.1)
symbol_at lists room op name (inr h) =
    let (t, e, p) = at_one h in
    seen (attribute_with lists room op) attribute_head (symbol_head name) e (of_kind (λ t. attribute_head (Some t)) t p.0 ∙ ap symbol_head p.1)

truth_at : (lists : Reads Attribute) (room : ℕ) (op : OpName) (b : Bool) {s left : List StreamToken} → At (TruthWord b) s left
    → attribute_with lists room op s (attribute_head (first s)) ≡ Ok (truth_value b, left)
unfolding attribute_with
truth_at lists room op true h =
    let (t, e, p) = at_one h in
    seen (attribute_with lists room op) attribute_head (truth_head true) e (of_text (λ t. attribute_head (Some t)) t p.0 p.1)
truth_at lists room op false h =
    let (t, e, p) = at_one h in
    seen (attribute_with lists room op) attribute_head (truth_head false) e (of_text (λ t. attribute_head (Some t)) t p.0 p.1)

number_head_of : (t : TextToken) → (t.kind ≡ kind.Integer) ⊎ (t.kind ≡ kind.Minus) → attribute_head (Some t) ≡ number_head
number_head_of t (inl k) = of_kind (λ t. attribute_head (Some t)) t k
number_head_of t (inr k) = of_kind (λ t. attribute_head (Some t)) t k

attribute_at : (lists : Reads Attribute) (Lists : List Attribute → Phrase) (room : ℕ) (op : OpName)
    → ((a : Attribute) (s left : List StreamToken) → At (ListPhrase Lists a) s left → (attribute_head (first s) ≡ list_head) × (lists s ≡ Ok (a, left)))
    → (a : Attribute) {s left : List StreamToken} → NoColon left → At (AttributeWith Lists room a) s left
    → attribute_with lists room op s (attribute_head (first s)) ≡ Ok (a, left)
unfolding attribute_with
attribute_at lists Lists room op listed unit_value clear h = absurd h.says
attribute_at lists Lists room op listed (text_value text) clear h =
    let (t, e, p) = at_one h in
    seen (attribute_with lists room op) attribute_head (text_head text) e (of_kind (λ t. attribute_head (Some t)) t p.0 ∙ ap text_head p.1)
attribute_at lists Lists room op listed (symbol_value name) clear h = symbol_at lists room op name (at_either h)
attribute_at lists Lists room op listed (truth_value b) clear h = truth_at lists room op b h
attribute_at lists Lists room op listed (integer_value z x) {s} {left} clear h =
    let first_is = starts {T = BeginsInteger} (leads_where (leads_then (integer_begins z))) h in
    let head : attribute_head (first s) ≡ number_head = ap (λ y. attribute_head (first y)) first_is.same ∙ number_head_of first_is.first first_is.says in
    ap (attribute_with lists room op s) head ∙ typed_at room op clear h
attribute_at lists Lists room op listed (list_value inner) {s} {left} clear h =
    let (head, e) = listed (list_value inner) s left h in
    ap (attribute_with lists room op s) head ∙ e

no_colon : (k : TokenKind) → is_kind k kind.Colon ≡ false → (s left : List StreamToken) → At (Mark k) s left → NoColon s
no_colon k other s left h = no_mark kind.Colon other h

list_at : (room : ℕ) (op : OpName) → Again NoColon (attribute_text room op) (AttributePhrase room) → (a : Attribute) {s left : List StreamToken}
    → At (ListPhrase (λ l. Between kind.LeftBracket kind.RightBracket (Commas (AttributePhrase room) l)) a) s left
    → (attribute_head (first s) ≡ list_head) × (list_text (attribute_text room op) op s ≡ Ok (a, left))
unfolding list_text
list_at room op value unit_value h = absurd h.says
list_at room op value (text_value text) h = absurd h.says
list_at room op value (symbol_value name) h = absurd h.says
list_at room op value (truth_value b) h = absurd h.says
list_at room op value (integer_value z x) h = absurd h.says
list_at room op value (list_value inner) {s} {left} h =
    let (l, same, p) = h.says in
    let inside : At (Between kind.LeftBracket kind.RightBracket (Commas (AttributePhrase room) l)) s left = record { passed = h.passed; same = h.same; says = p } in
    let (m, a, b) = at_then inside in
    let (t, e, k) = at_one a in (
      ap (λ y. attribute_head (first y)) e ∙ of_kind (λ t. attribute_head (Some t)) t k,
      on_ok _ (ap (λ y. items_until op kind.RightBracket (attribute_text room op) (after y)) e
          ∙ until_at op kind.RightBracket value (leads_attribute room) (no_colon kind.Comma refl) (no_colon kind.RightBracket refl) refl l b)
          (ap (λ x. Ok (list_value x, left)) (sym same)),
    )

pub again_attribute : (room : ℕ) (op : OpName) → Again NoColon (attribute_text room op) (AttributePhrase room)
again_attribute zero op = record {
  gives = λ a s left h clear. attribute_at (too_deep op) (λ l ts. ⊥) zero op (λ a s left h. none_listed (too_deep op) a h) a clear h;
}
  where
    none_listed : (lists : Reads Attribute) (a : Attribute) {s left : List StreamToken} → At (ListPhrase (λ l ts. ⊥) a) s left
        → (attribute_head (first s) ≡ list_head) × (lists s ≡ Ok (a, left))
    none_listed lists unit_value h = absurd h.says
    none_listed lists (text_value text) h = absurd h.says
    none_listed lists (symbol_value name) h = absurd h.says
    none_listed lists (truth_value b) h = absurd h.says
    none_listed lists (integer_value z x) h = absurd h.says
    none_listed lists (list_value inner) h = absurd h.says.2
again_attribute (suc room) op = record {
  gives = λ a s left h clear. attribute_at (list_text (attribute_text room op) op) (λ l. Between kind.LeftBracket kind.RightBracket (Commas (AttributePhrase room) l)) (suc room) op
      (λ a s left h. list_at room op (again_attribute room op) a h) a clear h;
}

-- ---- dictionaries

-- what may stand after an entry
abbrev EntryEnd : List StreamToken → Type 0
EntryEnd s = (is_next kind.Colon s ≡ false) × (is_next kind.Equals s ≡ false)

entry_end : (k : TokenKind) {s left : List StreamToken} → is_kind k kind.Colon ≡ false → is_kind k kind.Equals ≡ false → At (Mark k) s left → EntryEnd s
entry_end k clear other h = (no_colon k clear _ _ h, no_mark kind.Equals other h)

key_at : (op : OpName) (keys : List Name) (key : Name) {s left : List StreamToken} → is_among key keys ≡ false → At (NamePhrase key) s left → new_key op keys s ≡ Ok (key, left)
unfolding new_key
key_at op keys key {s} {left} new h = on_ok _ ((again_name op).gives key s left h tt) (if_false _ new refl)

value_at : (op : OpName) (strings : List Name) (e : Entry) {s left : List StreamToken} → NoColon left
    → At (Where (is_among e.key strings ≡ false) (AttributePhrase most_open e.value)) s left
    ⊎ At (λ ts. (is_among e.key strings ≡ true) × ((text : Name) × (e.value ≡ text_value text) × Holding kind.StringLiteral text ts)) s left
    → value_of_key 32 op strings e.key s ≡ Ok (e.value, left)
unfolding value_of_key string_value
value_at op strings e {s} {left} clear (inl h) =
    let (other, p) = at_where h in
    if_false _ other ((again_attribute 32 op).gives e.value s left p clear)
value_at op strings e {s} {left} clear (inr h) =
    let (is, rest) = h.says in
    let (text, same, p) = rest in
    let inside : At (Holding kind.StringLiteral text) s left = record { passed = h.passed; same = h.same; says = p } in
    let (t, c, w) = holding_at op inside in
    if_true _ is (on_ok _ w (ap (λ x. Ok (text_value x, left)) c ∙ ap (λ x. Ok (x, left)) (sym same)))

entry_at : (op : OpName) (strings keys : List Name) (e : Entry) {s left : List StreamToken} → is_among e.key keys ≡ false → EntryEnd left
    → At (Then (NamePhrase e.key) (Then (Mark kind.Equals) (ValuePhrase strings e))) s left
    ⊎ At (Where ((is_among e.key strings ≡ false) × (e.value ≡ unit_value)) (NamePhrase e.key)) s left
    → entry_text 32 op strings keys s ≡ Ok (e, left)
unfolding entry_text entry_value
entry_at op strings keys e {s} {left} new clear (inl h) =
    let (m, a, b) = at_then h in
    let (k, c, d) = at_then b in
    let (next, following) = next_at c in
    on_ok _ (key_at op keys e.key new a)
    (on_ok _ (if_true _ next (ap (value_of_key 32 op strings e.key) following ∙ value_at op strings e clear.0 (at_either d))) refl)
entry_at op strings keys e {s} {left} new clear (inr h) =
    let (is, p) = at_where h in
    on_ok _ (key_at op keys e.key new p) (on_ok _ (if_false _ clear.1 (if_false _ is.0 (ap (λ x. Ok (x, left)) (sym is.1)))) refl)

leads_entry : {T : TextToken → Type 0} (strings : List Name) (e : Entry) → Leads T (NamePhrase e.key) → Leads T (EntryPhrase strings e)
leads_entry strings e name = leads_either (leads_then name) (leads_where name)

any_entry : (strings : List Name) (e : Entry) → Leads (λ _. Unit {0}) (EntryPhrase strings e)
any_entry strings e = leads_entry strings e (leads_name (λ t k. tt) (λ t k. tt))

entries_at : (op : OpName) (strings keys : List Name) (n : ℕ) (e : Entry) (es : List Entry) (s left : List StreamToken) → AreOnce keys (e ∷ es)
    → At (Commas (EntryPhrase strings) (e ∷ es)) s left → EntryEnd left → is_next kind.Comma left ≡ false → length s ≤ n
    → entries 32 op strings keys n s ≡ Ok (e ∷ es, left)
unfolding entries
entries_at op strings keys zero e [] s left once h end clear le = let short = shorter (any_entry strings e) h in absurd (omega (arith, short, le))
entries_at op strings keys (suc n) e [] s left once h end clear le = on_ok _ (entry_at op strings keys e once.0 end (at_either h)) (if_false _ clear refl)
entries_at op strings keys zero e (f ∷ fs) s left once h end clear le =
    let (m, a, b) = at_then h in let short = shorter (any_entry strings e) a in absurd (omega (arith, short, le))
entries_at op strings keys (suc n) e (f ∷ fs) s left once h end clear le =
    let (m, a, b) = at_then h in
    let (k, c, d) = at_then b in
    let (next, following) = next_at c in
    let short = shorter (any_entry strings e) a in
    let short2 = shorter (leads_one {U = λ _. Unit {0}} (λ t p. tt)) c in
    on_ok _ (entry_at op strings keys e once.0 (entry_end kind.Comma refl refl c) (at_either a))
    (if_true _ next (on_ok _ (ap (entries 32 op strings (keys ++ e.key ∷ []) n) following
    ∙ entries_at op strings (keys ++ e.key ∷ []) n f fs k left once.1 d end clear (omega (arith, short, short2, le))) refl))

dictionary_at : (op : OpName) (strings : List Name) (es : List Entry) {s left : List StreamToken} → At (DictionaryPhrase strings es) s left
    → dictionary_text op strings s ≡ Ok (es, left)
unfolding dictionary_text
dictionary_at op strings [] {s} {left} h =
    let (once, p) = at_where h in
    let (m, a, b) = at_then p in
    let (k, c, d) = at_then b in
    let (t, e) = mark_at op a in
    let same = at_nothing c in
    let (next, following) = next_at d in
    on_ok _ e (if_true _ (ap (is_next kind.RightBrace) same ∙ next) (ap (λ y. Ok ([], y)) (ap after same ∙ following)))
dictionary_at op strings (f ∷ fs) {s} {left} h =
    let (once, p) = at_where h in
    let (m, a, b) = at_then p in
    let (k, c, d) = at_then b in
    let (t, e) = mark_at op a in
    let (u, eu) = mark_at op d in
    on_ok _ e (if_false _ (no_next kind.RightBrace (leads_commas (EntryPhrase strings) f fs (leads_entry strings f (name_unlike kind.RightBrace refl refl))) c)
    (on_ok _ (entries_at op strings [] (length m) f fs m k once c (entry_end kind.RightBrace refl refl d) (no_mark kind.Comma refl d) (omega arith))
    (on_ok _ eu refl)))

pub again_dictionary : (op : OpName) (strings : List Name) → Again Any (dictionary_text op strings) (DictionaryPhrase strings)
again_dictionary op strings = record { gives = λ es s left h _. dictionary_at op strings es h }

-- no dictionary stands there
abbrev pub NoBrace : List StreamToken → Type 0
NoBrace s = is_next kind.LeftBrace s ≡ false

pub some_dictionary_at : (op : OpName) (strings : List Name) (es : List Entry) {s left : List StreamToken} → At (DictionaryPhrase strings es) s left
    → maybe_dictionary op strings s ≡ Ok (Some es, left)
unfolding maybe_dictionary
some_dictionary_at op strings es h =
    let (once, p) = at_where h in
    let (m, a, b) = at_then p in
    let (next, following) = next_at a in
    if_true _ next (on_ok _ (dictionary_at op strings es h) refl)

maybe_at : (op : OpName) (strings : List Name) (es : Option (List Entry)) {s left : List StreamToken} → NoBrace left → At (MaybeDictionary strings es) s left
    → maybe_dictionary op strings s ≡ Ok (es, left)
unfolding maybe_dictionary
maybe_at op strings None clear h =
    let same = at_nothing h in
    if_false _ (ap (is_next kind.LeftBrace) same ∙ clear) (ap (λ y. Ok (None, y)) same)
maybe_at op strings (Some es) clear h = some_dictionary_at op strings es h

pub again_maybe : (op : OpName) (strings : List Name) → Again NoBrace (maybe_dictionary op strings) (MaybeDictionary strings)
again_maybe op strings = record { gives = λ es s left h clear. maybe_at op strings es clear h }
