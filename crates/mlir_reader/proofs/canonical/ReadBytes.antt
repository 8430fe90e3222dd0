-- What is read of bytes: names are bytes, numbers are below their limits, and nothing is too deep.
use Rattle.std.proofs.Common.{◌≡◌, ℕ, zero, suc, ◌+◌, ◌-◌, ◌<◌, ◌≤◌, Bool, true, false, cond, ◌&&◌, ◌==◌, List, [], ◌∷◌, ◌++◌, map, take, drop, length, refl, ap, ◌∙◌, sym, subst, inl, inr, arith, length-append}
use Rattle.std.specs.Prelude.{ℤ, pos, negsuc, nat_le, Result, Ok, Err, ⊤}
use Rattle.std.proofs.lemmas.Bool.{and_parts, leb-true}
use Rattle.diag.specs.Location.{start_location, next_location}
use Rattle.diag.specs.declared.refusal.Location.{Location}
use Rattle.diag.specs.declared.refusal.Refusal.{Refusal}
use Rattle.hw_model.specs.Types.{Name, HwType, FieldTypes}
use Rattle.hw_model.specs.Types.HwType.{int, clock, array, struct}
use Rattle.hw_model.specs.TypeViews.{NamedType, fields_of}
use Rattle.hw_model.specs.Kinds.{Literal, Literals}
use Rattle.hw_model.specs.Kinds.Literal.{leaf, parts}
use Rattle.hw_model.specs.Design.{Attribute, Attributes, Entry}
use Rattle.hw_model.specs.Design.Attribute.{unit_value, text_value, symbol_value, truth_value, integer_value, list_value}
use Rattle.mlir_lexer.specs.Classes.{is_digit, is_hex_digit}
use Rattle.mlir_lexer.specs.Contents.{hex_value, unescape_byte, decode, content_of}
use Rattle.mlir_lexer.specs.Prefixes.{prefix_of}
use Rattle.mlir_lexer.specs.Tokens.{TextToken, lex_prefix, tokens_after, tokens}
use Rattle.mlir_lexer.specs.declared.contents.Pending.{Pending}
use Rattle.mlir_lexer.specs.declared.contents.Pending.TheVariants.{Nothing, Backslash, HighDigit}
use Rattle.mlir_lexer.specs.declared.prefixes.Prefix.{Prefix}
use Rattle.mlir_lexer.specs.declared.prefixes.Prefix.TheVariants.{LineEnd, Gap, Token, Bad}
use Rattle.mlir_lexer.specs.declared.token.TokenKind.{TokenKind}
use Rattle.mlir_lexer.specs.declared.token.TokenKind.TheVariants as kind
use Rattle.mlir_syntax.specs.Numerals.{number_limit, negative}
use Rattle.mlir_syntax.specs.TypeText.{most_open}
use Rattle.mlir_syntax.specs.AttributeText.{is_among, in_order}
use Rattle.mlir_syntax.specs.LiteralText.{literals_in_order, truth_leaf}
use Rattle.mlir_syntax.specs.Spelling.{Phrase, Then, Commas, Holding, NamePhrase, SymbolPhrase, IntegerPhrase, ElementPhrase, FieldPhrase, FieldsPhrase, TypeWith, TypePhrase, IntegerType}
use Rattle.mlir_syntax.specs.Spelling.{AttributePhrase, ValuePhrase, EntryPhrase, LiteralWith, PartsPhrase, LiteralPhrase, AggregatePhrase}
use Rattle.mlir_operations.specs.Spelling.{token_of}
use Rattle.stored_form.specs.Bytes.{Each, AreBytes}
use Rattle.stored_form.specs.Limits.{IsInteger, IsType, AreFields, IsLiteral, AreLiterals, IsAttribute, AreAttributes, IsValue, IsEntry}

-- ---- the tokens of bytes

-- the text of each token is bytes
abbrev pub AreTexts : List TextToken → Type 0
AreTexts ts = Each (λ (t : TextToken). AreBytes t.text) ts

take_bytes : (n : ℕ) (bs : List ℕ) → AreBytes bs → AreBytes (take n bs)
take_bytes zero bs h = tt
take_bytes (suc n) [] h = tt
take_bytes (suc n) (b ∷ bs) h = (h.0, take_bytes n bs h.1)

drop_bytes : (n : ℕ) (bs : List ℕ) → AreBytes bs → AreBytes (drop n bs)
drop_bytes zero bs h = h
drop_bytes (suc n) [] h = tt
drop_bytes (suc n) (b ∷ bs) h = drop_bytes n bs h.1

abbrev HasBytes : Result TextToken Refusal → Type 0
HasBytes (Ok t) = AreBytes t.text
HasBytes (Err r) = ⊤

told_bytes : (f : Prefix) (location : Location) (at : ℕ) (bytes : List ℕ) (later : ℕ → List (Result TextToken Refusal)) → AreBytes bytes
    → ((n : ℕ) → Each HasBytes (later n)) → Each HasBytes (lex_prefix f location at bytes later)
told_bytes LineEnd location at bytes later h l = l 0
told_bytes (Gap n) location at bytes later h l = l (n - 1)
told_bytes (Token k n) location at bytes later h l = (take_bytes n bytes h, l (n - 1))
told_bytes (Bad n) location at bytes later h l = (tt, tt)

tokens_bytes : (skipped : ℕ) (location : Location) (at : ℕ) (bytes : List ℕ) → AreBytes bytes → Each HasBytes (tokens_after skipped location at bytes)
unfolding tokens_after
tokens_bytes skipped location at [] h = tt
tokens_bytes zero location at (b ∷ bs) h =
    told_bytes (prefix_of b bs) location at (b ∷ bs) (λ more. tokens_after more (next_location location b) (at + 1) bs) h
    (λ n. tokens_bytes n (next_location location b) (at + 1) bs h.1)
tokens_bytes (suc skipped) location at (b ∷ bs) h = tokens_bytes skipped (next_location location b) (at + 1) bs h.1

told_few : (f : Prefix) (location : Location) (at : ℕ) (bytes : List ℕ) (later : ℕ → List (Result TextToken Refusal)) (n : ℕ)
    → ((k : ℕ) → length (later k) ≤ n) → length (lex_prefix f location at bytes later) ≤ suc n
told_few LineEnd location at bytes later n l = let e = l 0 in omega (arith, e)
told_few (Gap k) location at bytes later n l = let e = l (k - 1) in omega (arith, e)
told_few (Token t k) location at bytes later n l = let e = l (k - 1) in omega (arith, e)
told_few (Bad k) location at bytes later n l = omega arith

tokens_few : (skipped : ℕ) (location : Location) (at : ℕ) (bytes : List ℕ) → length (tokens_after skipped location at bytes) ≤ length bytes
unfolding tokens_after
tokens_few skipped location at [] = omega arith
tokens_few zero location at (b ∷ bs) =
    told_few (prefix_of b bs) location at (b ∷ bs) (λ more. tokens_after more (next_location location b) (at + 1) bs) (length bs)
    (λ n. tokens_few n (next_location location b) (at + 1) bs)
tokens_few (suc skipped) location at (b ∷ bs) = let e = tokens_few skipped (next_location location b) (at + 1) bs in omega (arith, e)

of_tokens : (ts : List TextToken) → Each HasBytes (map token_of ts) → AreTexts ts
of_tokens [] h = tt
of_tokens (t ∷ ts) h = (h.0, of_tokens ts h.1)

length_tokens : (ts : List TextToken) → length (map token_of ts) ≡ length ts
length_tokens [] = refl
length_tokens (t ∷ ts) = ap suc (length_tokens ts)

pub texts_of : (source : List ℕ) (ts : List TextToken) → AreBytes source → tokens source ≡ map token_of ts → AreTexts ts
texts_of source ts h e = of_tokens ts (subst (λ l. Each HasBytes l) e (tokens_bytes 0 start_location 0 source h))

pub count_of : (source : List ℕ) (ts : List TextToken) → tokens source ≡ map token_of ts → length ts ≤ length source
count_of source ts e = let f = tokens_few 0 start_location 0 source in let l = ap length e ∙ length_tokens ts in omega (arith, f, l)

parts_of : (ts a b : List TextToken) → ts ≡ a ++ b → AreTexts ts → AreTexts a × AreTexts b
parts_of ts a b e h = split a b (subst AreTexts e h)
  where
    split : (a b : List TextToken) → AreTexts (a ++ b) → AreTexts a × AreTexts b
    split [] b h = (tt, h)
    split (t ∷ a) b h = let r = split a b h.1 in ((h.0, r.0), r.1)

-- tokens that say a phrase and are texts, at most so many
pub record Said (P : Phrase) (most : ℕ) : Type 0 where
  pub symbols : List TextToken
  pub texts : AreTexts symbols
  pub few : length symbols ≤ most
  pub is : P symbols

unfoldable pub said : {P : Phrase} (ts : List TextToken) → AreTexts ts → P ts → Said P (length ts)
said ts texts h = record { symbols = ts; texts = texts; few = omega arith; is = h }

-- the first of two phrases, and the other
pub said_first : {P Q : Phrase} {most : ℕ} → Said (Then P Q) most → Said P most
said_first x =
    let h = x.is in
    let c = ap length h.2 ∙ length-append h.0 h.1 in
    let few = x.few in
    record { symbols = h.0; texts = (parts_of x.symbols h.0 h.1 h.2 x.texts).0; few = omega (arith, c, few); is = h.3 }

pub said_then : {P Q : Phrase} {most : ℕ} → Said (Then P Q) most → Said Q most
said_then x =
    let h = x.is in
    let c = ap length h.2 ∙ length-append h.0 h.1 in
    let few = x.few in
    record { symbols = h.1; texts = (parts_of x.symbols h.0 h.1 h.2 x.texts).1; few = omega (arith, c, few); is = h.4 }

-- together they have as many tokens as both
pub said_count : {P Q : Phrase} {most : ℕ} (x : Said (Then P Q) most) → length x.symbols ≡ length (said_first x).symbols + length (said_then x).symbols
unfolding said_first said_then
said_count x = let h = x.is in ap length h.2 ∙ length-append h.0 h.1

-- ---- what tokens hold

hex_small : (b : ℕ) → hex_value b < 16
hex_small b = digit (is_digit b) refl
  where
    high : (t : Bool) → (nat_le 65 b && nat_le b 70) ≡ t → cond t (b - 55) 0 < 16
    high true h = let p = leb-true b 70 (and_parts (nat_le 65 b) (nat_le b 70) h).1 in omega (arith, p)
    high false h = omega arith

    low : (t : Bool) → (nat_le 97 b && nat_le b 102) ≡ t → cond t (b - 87) (cond (nat_le 65 b && nat_le b 70) (b - 55) 0) < 16
    low true h = let p = leb-true b 102 (and_parts (nat_le 97 b) (nat_le b 102) h).1 in omega (arith, p)
    low false h = high (nat_le 65 b && nat_le b 70) refl

    digit : (t : Bool) → is_digit b ≡ t
        → cond t (b - 48) (cond (nat_le 97 b && nat_le b 102) (b - 87) (cond (nat_le 65 b && nat_le b 70) (b - 55) 0)) < 16
    digit true h = let p = leb-true b 57 (and_parts (nat_le 48 b) (nat_le b 57) h).1 in omega (arith, p)
    digit false h = low (nat_le 97 b && nat_le b 102) refl

escaped_small : (b : ℕ) → b < 256 → unescape_byte b < 256
escaped_small b h = go (b == 110) (b == 116)
  where
    go : (s t : Bool) → cond s 10 (cond t 9 b) < 256
    go true t = omega arith
    go false true = omega arith
    go false false = h

decoded_bytes : (p : Pending) (bs : List ℕ) → AreBytes bs → AreBytes (decode p bs)
decoded_bytes p [] h = tt
decoded_bytes Nothing (b ∷ bs) h = go (b == 92) (decoded_bytes Backslash bs h.1) (decoded_bytes Nothing bs h.1)
  where
    go : (t : Bool) → AreBytes (decode Backslash bs) → AreBytes (decode Nothing bs)
        → AreBytes (cond t (decode Backslash bs) (b ∷ decode Nothing bs))
    go true x y = x
    go false x y = (h.0, y)
decoded_bytes Backslash (b ∷ bs) h = go (is_hex_digit b) (decoded_bytes (HighDigit b) bs h.1) (decoded_bytes Nothing bs h.1)
  where
    go : (t : Bool) → AreBytes (decode (HighDigit b) bs) → AreBytes (decode Nothing bs)
        → AreBytes (cond t (decode (HighDigit b) bs) (unescape_byte b ∷ decode Nothing bs))
    go true x y = x
    go false x y = (escaped_small b h.0, y)
decoded_bytes (HighDigit high) (b ∷ bs) h = (let x = hex_small high in let y = hex_small b in omega (arith, x, y), decoded_bytes Nothing bs h.1)

content_bytes : (k : TokenKind) (text : List ℕ) → AreBytes text → AreBytes (content_of k text)
content_bytes kind.StringLiteral text h = decoded_bytes Nothing (take (length text - (1 + 1)) (drop 1 text))
    (take_bytes (length text - (1 + 1)) (drop 1 text) (drop_bytes 1 text h))
content_bytes kind.SymbolString text h = decoded_bytes Nothing (take (length text - (2 + 1)) (drop 2 text))
    (take_bytes (length text - (2 + 1)) (drop 2 text) (drop_bytes 2 text h))
content_bytes kind.ValueName text h = drop_bytes 1 text h
content_bytes kind.SymbolName text h = drop_bytes 1 text h
content_bytes kind.ResultNumber text h = drop_bytes 1 text h
content_bytes kind.AttributeAlias text h = drop_bytes 1 text h
content_bytes kind.TypeName text h = drop_bytes 1 text h
content_bytes _ text h = h

pub held_bytes : (k : TokenKind) (content : List ℕ) (ts : List TextToken) → AreTexts ts → Holding k content ts → AreBytes content
held_bytes k content ts texts h =
    let here : AreTexts (h.0 ∷ []) = subst AreTexts h.1 texts in
    subst AreBytes h.2.1 (content_bytes k h.0.text here.0)

pub name_bytes_read : (name : Name) (ts : List TextToken) → AreTexts ts → NamePhrase name ts → AreBytes name
name_bytes_read name ts texts (inl h) = held_bytes kind.BareName name ts texts h
name_bytes_read name ts texts (inr h) = held_bytes kind.StringLiteral name ts texts h

pub symbol_bytes_read : (name : Name) (ts : List TextToken) → AreTexts ts → SymbolPhrase name ts → AreBytes name
symbol_bytes_read name ts texts (inl h) = held_bytes kind.SymbolName name ts texts h
symbol_bytes_read name ts texts (inr h) = held_bytes kind.SymbolString name ts texts h

-- ---- lists with commas

pub each_read : {A : Type 0} (P : A → Phrase) (Q : A → Type 0) → ((x : A) (ts : List TextToken) → AreTexts ts → P x ts → Q x)
    → (xs : List A) (ts : List TextToken) → AreTexts ts → Commas P xs ts → Each Q xs
each_read P Q f [] ts texts h = tt
each_read P Q f (x ∷ []) ts texts h = (f x ts texts h, tt)
each_read P Q f (x ∷ y ∷ xs) ts texts h =
    let both = said ts texts h in
    let one = said_first both in
    let others = said_then (said_then both) in
    (f x one.symbols one.texts one.is, each_read P Q f (y ∷ xs) others.symbols others.texts others.is)

-- ---- numbers

pub integer_read : (z : ℤ) (ts : List TextToken) → IntegerPhrase z ts → IsInteger z
integer_read z ts (inl h) = subst IsInteger (sym h.1) h.2.0
integer_read z ts (inr h) = subst IsInteger (sym h.1) (below h.0 h.2.4.0)
  where
    below : (n : ℕ) → n < number_limit → IsInteger (negative n)
    below n lt = go (n == 0)
      where
        go : (b : Bool) → IsInteger (cond b (pos 0) (negsuc (n - 1)))
        go true = omega arith
        go false = omega (arith, lt)

-- ---- types

element_read : (Inner : HwType → Phrase) (room : ℕ) → ((t : HwType) (ts : List TextToken) → AreTexts ts → Inner t ts → IsType t room)
    → (t : HwType) (ts : List TextToken) → AreTexts ts → ElementPhrase Inner t ts → IsType t room
element_read Inner room inner t ts texts (inl h) = let type = said_then (said ts texts h) in inner t type.symbols type.texts type.is
element_read Inner room inner (int w) ts texts (inr h) = h.2.1.2.3
element_read Inner room inner clock ts texts (inr h) = absurd h
element_read Inner room inner (array n t) ts texts (inr h) = absurd h
element_read Inner room inner (struct fs) ts texts (inr h) = absurd h

abbrev IsField : ℕ → NamedType → Type 0
IsField room f = AreBytes f.name × IsType f.type room

pub field_read : (Inner : HwType → Phrase) (room : ℕ) → ((t : HwType) (ts : List TextToken) → AreTexts ts → Inner t ts → IsType t room)
    → (f : NamedType) (ts : List TextToken) → AreTexts ts → FieldPhrase Inner f ts → AreBytes f.name × IsType f.type room
field_read Inner room inner f ts texts h =
    let both = said ts texts h in
    let name = said_first both in
    let type = said_then (said_then both) in
    (name_bytes_read f.name name.symbols name.texts name.is, inner f.type type.symbols type.texts type.is)

fields_are : (room : ℕ) (fs : List NamedType) → Each (IsField room) fs → AreFields (fields_of fs) room
fields_are room [] h = tt
fields_are room (f ∷ fs) h = (h.0.0, h.0.1, fields_are room fs h.1)

fields_read : (Inner : HwType → Phrase) (room : ℕ) → ((t : HwType) (ts : List TextToken) → AreTexts ts → Inner t ts → IsType t room)
    → (fs : FieldTypes) (ts : List TextToken) → AreTexts ts → FieldsPhrase Inner (struct fs) ts → AreFields fs room
fields_read Inner room inner fs ts texts h =
    let same : fs ≡ fields_of h.0 = let e = h.1 in cc in
    let fields = said_first (said_then (said ts texts h.2)) in
    subst (λ (x : FieldTypes). AreFields x room) (sym same)
    (fields_are room h.0 (each_read (FieldPhrase Inner) (IsField room) (field_read Inner room inner) h.0 fields.symbols fields.texts fields.is))

type_with : (Inner : HwType → Phrase) (room : ℕ) → ((t : HwType) (ts : List TextToken) → AreTexts ts → Inner t ts → IsType t room)
    → (t : HwType) (ts : List TextToken) → AreTexts ts → TypeWith Inner t ts → IsType t (suc room)
type_with Inner room inner (int w) ts texts h = h.2.1.2.3
type_with Inner room inner clock ts texts h = tt
type_with Inner room inner (array n t) ts texts h =
    let both = said_first (said_then (said_then (said ts texts h))) in
    let number = said_first both in
    let element = said_then both in
    (number.is.0, element_read Inner room inner t element.symbols element.texts element.is)
type_with Inner room inner (struct fs) ts texts h =
    let fields = said_then (said ts texts h) in fields_read Inner room inner fs fields.symbols fields.texts fields.is

pub type_read : (room : ℕ) (t : HwType) (ts : List TextToken) → AreTexts ts → TypePhrase room t ts → IsType t room
type_read zero (int w) ts texts h = h.2.1.2.3
type_read zero clock ts texts h = tt
type_read zero (array n t) ts texts h = absurd h
type_read zero (struct fs) ts texts h = absurd h
type_read (suc room) t ts texts h = type_with (TypePhrase room) room (type_read room) t ts texts h

-- ---- constants of aggregates

literals_are : (room : ℕ) (ls : List Literal) → Each (λ (l : Literal). IsLiteral l room) ls → AreLiterals (literals_in_order ls) room
literals_are room [] h = tt
literals_are room (l ∷ ls) h = (h.0, literals_are room ls h.1)

pub parts_read : (Part : Literal → Phrase) (room : ℕ) → ((l : Literal) (ts : List TextToken) → AreTexts ts → Part l ts → IsLiteral l room)
    → (ls : Literals) (ts : List TextToken) → AreTexts ts → PartsPhrase Part ls ts → AreLiterals ls room
parts_read Part room part ls ts texts h =
    let inner = said_first (said_then (said ts texts h.2)) in
    subst (λ (x : Literals). AreLiterals x room) (sym h.1)
    (literals_are room h.0 (each_read Part (λ (l : Literal). IsLiteral l room) part h.0 inner.symbols inner.texts inner.is))

leaf_read : (room : ℕ) (Lists : Literals → Phrase) (z : ℤ) (t : HwType) (ts : List TextToken) → AreTexts ts → LiteralWith Lists room (leaf z t) ts
    → IsLiteral (leaf z t) room
leaf_read room Lists z t ts texts (inl h) =
    let type = said_then (said_then (said ts texts h)) in
    (integer_read z h.0 h.3, type_read room t type.symbols type.texts type.is)
leaf_read room Lists z t ts texts (inr h) = subst (λ l. IsLiteral l room) (sym h.1) (small h.0)
  where
    small : (b : Bool) → IsLiteral (truth_leaf b) room
    small true = (omega arith, omega arith)
    small false = (omega arith, omega arith)

literal_read : (room : ℕ) (l : Literal) (ts : List TextToken) → AreTexts ts → LiteralPhrase room l ts → IsLiteral l room
literal_read zero (leaf z t) ts texts h = leaf_read zero (λ ls ts. ⊥) z t ts texts h
literal_read zero (parts ls) ts texts h = absurd h
literal_read (suc room) (leaf z t) ts texts h = leaf_read (suc room) (PartsPhrase (LiteralPhrase room)) z t ts texts h
literal_read (suc room) (parts ls) ts texts h = parts_read (LiteralPhrase room) room (literal_read room) ls ts texts h

pub aggregate_read : (ls : Literals) (ts : List TextToken) → AreTexts ts → AggregatePhrase ls ts → AreLiterals ls 31
aggregate_read ls ts texts h = parts_read (LiteralPhrase 31) 31 (literal_read 31) ls ts texts h

-- ---- attributes and entries

attributes_are : (room : ℕ) (l : List Attribute) → Each (λ (a : Attribute). IsAttribute a room) l → AreAttributes (in_order l) room
attributes_are room [] h = tt
attributes_are room (a ∷ l) h = (h.0, attributes_are room l h.1)

stored_type : (room : ℕ) (t : HwType) (ts : List TextToken) → AreTexts ts → IntegerType room t ts → IsType t room
stored_type room t ts texts (inl h) = let type = said_then (said ts texts h) in type_read room t type.symbols type.texts type.is
stored_type room t ts texts (inr h) = subst (λ u. IsType u room) (sym h.0) (omega arith)

pub attribute_read : (room : ℕ) (a : Attribute) (ts : List TextToken) → AreTexts ts → AttributePhrase room a ts → IsAttribute a room
attribute_read zero unit_value ts texts h = h
attribute_read zero (text_value text) ts texts h = held_bytes kind.StringLiteral text ts texts h
attribute_read zero (symbol_value name) ts texts h = symbol_bytes_read name ts texts h
attribute_read zero (truth_value b) ts texts h = tt
attribute_read zero (integer_value z t) ts texts h = let type = said_then (said ts texts h.1) in (h.0, stored_type zero t type.symbols type.texts type.is)
attribute_read zero (list_value inner) ts texts h = absurd h.2
attribute_read (suc room) unit_value ts texts h = h
attribute_read (suc room) (text_value text) ts texts h = held_bytes kind.StringLiteral text ts texts h
attribute_read (suc room) (symbol_value name) ts texts h = symbol_bytes_read name ts texts h
attribute_read (suc room) (truth_value b) ts texts h = tt
attribute_read (suc room) (integer_value z t) ts texts h =
    let type = said_then (said ts texts h.1) in (h.0, stored_type (suc room) t type.symbols type.texts type.is)
attribute_read (suc room) (list_value inner) ts texts h =
    let list = said_first (said_then (said ts texts h.2)) in
    subst (λ (x : Attributes). AreAttributes x room) (sym h.1)
    (attributes_are room h.0 (each_read (AttributePhrase room) (λ (a : Attribute). IsAttribute a room) (attribute_read room) h.0 list.symbols list.texts list.is))

value_of : (b : Bool) (a : Attribute) → b ≡ false → IsAttribute a most_open → IsValue b a
value_of b unit_value e h = absurd h
value_of b (text_value text) e h = h
value_of b (symbol_value name) e h = (e, h)
value_of b (truth_value t) e h = (e, h)
value_of b (integer_value z t) e h = (e, h)
value_of b (list_value inner) e h = (e, h)

value_read : (strings : List Name) (e : Entry) (ts : List TextToken) → AreTexts ts → ValuePhrase strings e ts → IsValue (is_among e.key strings) e.value
value_read strings e ts texts (inl h) = value_of (is_among e.key strings) e.value h.0 (attribute_read most_open e.value ts texts h.1)
value_read strings e ts texts (inr h) =
    subst (λ (a : Attribute). IsValue (is_among e.key strings) a) (sym h.1.1) (held_bytes kind.StringLiteral h.1.0 ts texts h.1.2)

pub entry_read : (strings : List Name) (e : Entry) (ts : List TextToken) → AreTexts ts → EntryPhrase strings e ts → IsEntry strings e
entry_read strings e ts texts (inl h) =
    let both = said ts texts h in
    let key = said_first both in
    let value = said_then (said_then both) in
    record { key = name_bytes_read e.key key.symbols key.texts key.is; value = value_read strings e value.symbols value.texts value.is }
entry_read strings e ts texts (inr h) = record {
  key = name_bytes_read e.key ts texts h.1;
  value = subst (λ (a : Attribute). IsValue (is_among e.key strings) a) (sym h.0.1) h.0.0;
}
