-- Attributes and dictionaries are read as they are printed.
use Rattle.std.proofs.Common.{◌≡◌, inl, inr, ℕ, zero, suc, ◌+◌, ◌^◌, ◌<◌, Bool, true, false, List, [], ◌∷◌, ◌++◌, refl, sym, ap, arith}
use Rattle.std.specs.Prelude.{codes, ℤ, pos, negsuc}
use Rattle.std.proofs.lemmas.Bool.{ltb-true}
use Rattle.std.proofs.lemmas.List.{append-nil}
use Rattle.hw_model.specs.Types.{Name, HwType}
use Rattle.hw_model.specs.Design.{Attribute, Attributes, Entry}
use Rattle.hw_model.specs.Design.Attribute.{unit_value, text_value, symbol_value, truth_value, integer_value, list_value}
use Rattle.hw_model.specs.Design.Attributes.{no_attributes, attribute}
use Rattle.mlir_lexer.specs.Tokens.{TextToken}
use Rattle.mlir_lexer.specs.declared.token.TokenKind.TheVariants as kind
use Rattle.mlir_syntax.specs.TypeText.{most_open}
use Rattle.mlir_syntax.specs.AttributeText.{is_among, is_stored, in_order}
use Rattle.mlir_syntax.specs.Spelling.{Phrase, Mark, Then, IntegerPhrase, TypePhrase, TruthWord, IntegerType, AttributePhrase, EntryPhrase, DictionaryPhrase}
use Rattle.mlir_printer.specs.Strings.{name_bytes}
use Rattle.printing_laws.specs.Numbers.{truth_bytes}
use Rattle.mlir_printer.specs.Commas.{comma_bytes, items_from, commas}
use Rattle.mlir_printer.specs.Attributes.{typed_bytes, attribute_bytes, attributes_from, value_bytes, entry_bytes}
use Rattle.mlir_printer.specs.Spellable.{IsDictionary}
use Rattle.stored_form.specs.Bytes.{Each, AreBytes}
use Rattle.stored_form.specs.Limits.{IsInteger, IsType, IsAttribute, AreAttributes, IsValue, IsEntry}
use Rattle.mlir_printer.proofs.lexed.LexedTexts.{Whole, Lexed, lexed, lexed_as, lexed_by, whole_as, then, then_on, left_bracket, right_bracket, left_brace, right_brace}
use Rattle.mlir_printer.proofs.lexed.LexedStrings.{string_lexed}
use Rattle.mlir_printer.proofs.lexed.LexedNames.{bare_lexed, name_lexed, symbol_lexed}
use Rattle.mlir_printer.proofs.lexed.LexedNumbers.{integer_lexed}
use Rattle.mlir_printer.proofs.lexed.LexedCommas.{blank_colon, blank_equals, commas_lexed, between, each_of}
use Rattle.mlir_printer.proofs.lexed.LexedTypes.{type_lexed}

-- ---- values without parts

pub truth_lexed : (b : Bool) → Lexed (TruthWord b) (truth_bytes b)
truth_lexed true = bare_lexed (codes "true") refl
truth_lexed false = bare_lexed (codes "false") refl

-- an integer and its type
pub typed_lexed : (z : ℤ) (t : HwType) (room : ℕ) → IsInteger z → IsType t room
    → Lexed (Then (IntegerPhrase z) (Then (Mark kind.Colon) (TypePhrase room t))) (typed_bytes z t)
unfolding typed_bytes
typed_lexed z t room whole type = then (integer_lexed z whole) (then_on blank_colon (type_lexed t room type)) refl

stored_integer : (z : ℤ) → is_stored z ≡ true → IsInteger z
stored_integer (pos n) h = let small : n < 2 ^ 64 = ltb-true n (2 ^ 64) h in omega (arith, small)
stored_integer (negsuc n) h = let small : n < 2 ^ 63 = ltb-true n (2 ^ 63) h in omega (arith, small)

second_as : {P Q R : Phrase} (ts : List TextToken) → ((ts : List TextToken) → Q ts → R ts) → Then P Q ts → Then P R ts
second_as ts to h = (h.0, h.1, h.2, h.3, to h.1 h.4)

number_lexed : (z : ℤ) (t : HwType) (room : ℕ) → is_stored z ≡ true → IsType t room
    → Lexed (λ ts. (is_stored z ≡ true) × Then (IntegerPhrase z) (IntegerType room t) ts) (typed_bytes z t)
number_lexed z t room stored type =
    lexed_as (λ ts h. (stored, second_as ts (λ us g. inl g) h)) (typed_lexed z t room (stored_integer z stored) type)

-- ---- lists

-- attributes in order
in_list : Attributes → List Attribute
in_list no_attributes = []
in_list (attribute a rest) = a ∷ in_list rest

list_back : (l : Attributes) → in_order (in_list l) ≡ l
unfolding in_list
list_back no_attributes = refl
list_back (attribute a rest) = ap (attribute a) (list_back rest)

list_bytes : (i : ℕ) (l : Attributes) → attributes_from i l ≡ items_from attribute_bytes i (in_list l)
unfolding in_list
list_bytes i no_attributes = refl
list_bytes i (attribute a rest) = ap (λ x. comma_bytes i ++ (attribute_bytes a ++ x)) (list_bytes (i + 1) rest)

list_lexed : (room : ℕ) (l : Attributes) → Each (λ a. Lexed (AttributePhrase room a) (attribute_bytes a)) (in_list l)
    → Lexed (AttributePhrase (suc room) (list_value l)) (attribute_bytes (list_value l))
list_lexed room l each =
    let inside = commas_lexed (AttributePhrase room) attribute_bytes (in_list l) each in
    let all = between 93 [] left_bracket inside right_bracket refl in
    lexed_by (ap (λ x. codes "[" ++ (x ++ codes "]")) (sym (list_bytes 0 l)))
    (lexed_as (λ ts p. (in_list l, sym (list_back l), p)) (lexed all))

mutual
  unfolding in_list

  -- an attribute is read as itself
  pub attribute_lexed : (a : Attribute) (room : ℕ) → IsAttribute a room → Lexed (AttributePhrase room a) (attribute_bytes a)
  attribute_lexed unit_value room h = absurd h
  attribute_lexed (text_value text) zero h = lexed (string_lexed text h)
  attribute_lexed (text_value text) (suc room) h = lexed (string_lexed text h)
  attribute_lexed (symbol_value name) zero h = symbol_lexed name h
  attribute_lexed (symbol_value name) (suc room) h = symbol_lexed name h
  attribute_lexed (truth_value b) zero h = truth_lexed b
  attribute_lexed (truth_value b) (suc room) h = truth_lexed b
  attribute_lexed (integer_value z t) zero h = number_lexed z t zero h.0 h.1
  attribute_lexed (integer_value z t) (suc room) h = number_lexed z t (suc room) h.0 h.1
  attribute_lexed (list_value l) zero h = absurd h
  attribute_lexed (list_value l) (suc room) h = list_lexed room l (attributes_lexed l room h)

  attributes_lexed : (l : Attributes) (room : ℕ) → AreAttributes l room → Each (λ a. Lexed (AttributePhrase room a) (attribute_bytes a)) (in_list l)
  attributes_lexed no_attributes room h = tt
  attributes_lexed (attribute a rest) room h = (attribute_lexed a room h.0, attributes_lexed rest room h.1)

-- ---- dictionaries

-- an entry of these parts
abbrev entry : Name → Attribute → Entry
entry key value = record { key = key; value = value }

-- an entry with an attribute
attribute_entry : (strings : List Name) (key : Name) (value : Attribute) → AreBytes key → is_among key strings ≡ false → IsAttribute value most_open
    → Lexed (EntryPhrase strings (entry key value)) (name_bytes key ++ (codes " = " ++ attribute_bytes value))
attribute_entry strings key value small other h =
    let attribute = lexed_as (λ ts p. inl (other, p)) (attribute_lexed value most_open h) in
    lexed_as (λ ts p. inl p) (then (name_lexed key small) (then_on blank_equals attribute) refl)

-- an entry with a string
string_entry : (strings : List Name) (key text : Name) → AreBytes key → is_among key strings ≡ true → AreBytes text
    → Lexed (EntryPhrase strings (entry key (text_value text))) (name_bytes key ++ (codes " = " ++ attribute_bytes (text_value text)))
string_entry strings key text small among h =
    let string = lexed_as (λ ts p. inr (among, (text, refl, p))) (lexed (string_lexed text h)) in
    lexed_as (λ ts p. inl p) (then (name_lexed key small) (then_on blank_equals string) refl)

text_entry : (strings : List Name) (key text : Name) → AreBytes key → AreBytes text
    → Lexed (EntryPhrase strings (entry key (text_value text))) (name_bytes key ++ (codes " = " ++ attribute_bytes (text_value text)))
text_entry strings key text small h = go (is_among key strings) refl
  where
    go : (b : Bool) → is_among key strings ≡ b
        → Lexed (EntryPhrase strings (entry key (text_value text))) (name_bytes key ++ (codes " = " ++ attribute_bytes (text_value text)))
    go true e = string_entry strings key text small e h
    go false e = attribute_entry strings key (text_value text) small e h

valued_entry : (strings : List Name) (key : Name) (value : Attribute) → AreBytes key → IsValue (is_among key strings) value
    → Lexed (EntryPhrase strings (entry key value)) (name_bytes key ++ value_bytes value)
valued_entry strings key unit_value small h =
    lexed_by (sym (append-nil (name_bytes key))) (lexed_as (λ ts p. inr ((h, refl), p)) (name_lexed key small))
valued_entry strings key (text_value text) small h = text_entry strings key text small h
valued_entry strings key (symbol_value name) small h = attribute_entry strings key (symbol_value name) small h.0 h.1
valued_entry strings key (truth_value b) small h = attribute_entry strings key (truth_value b) small h.0 h.1
valued_entry strings key (integer_value z t) small h = attribute_entry strings key (integer_value z t) small h.0 h.1
valued_entry strings key (list_value l) small h = attribute_entry strings key (list_value l) small h.0 h.1

entry_lexed : (strings : List Name) (e : Entry) → IsEntry strings e → Lexed (EntryPhrase strings e) (entry_bytes e)
unfolding entry_bytes
entry_lexed strings e h = valued_entry strings e.key e.value h.key h.value

-- a dictionary is read as itself
pub dictionary_lexed : (strings : List Name) (es : List Entry) → IsDictionary strings es
    → Whole (DictionaryPhrase strings es) (codes "{" ++ (commas entry_bytes es ++ codes "}"))
dictionary_lexed strings es h =
    let inside = commas_lexed (EntryPhrase strings) entry_bytes es (each_of (entry_lexed strings) es h.each) in
    whole_as (λ ts p. (h.once, p)) (between 125 [] left_brace inside right_brace refl)
