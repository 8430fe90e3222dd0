-- Operations that are read are in canonical form.
use Rattle.std.proofs.Common.{◌≡◌, ℕ, zero, suc, ◌-◌, ◌^◌, ◌<◌, ◌≤◌, Bool, true, false, cond, ◌&&◌, List, [], ◌∷◌, ◌++◌, length, refl, ap, ◌∙◌, sym, subst, arith}
use Rattle.std.specs.Prelude.{ℤ, pos, negsuc, nat_eq, nat_lt, Option, Some, None, ⊤}
use Rattle.std.proofs.lemmas.List.{length-map}
use Rattle.std.proofs.Math.Pow.{pow_mono}
use Rattle.std.proofs.lemmas.Bool.{and_parts, ltb-true, cond-false}
use Rattle.opcode.specs.declared.listed.Listed.{Listed}
use Rattle.opcode.specs.declared.listed.Listed.TheVariants as listed
use Rattle.hw_model.specs.Types.{Name, HwType}
use Rattle.hw_model.specs.Types.HwType.{int, clock, array, struct}
use Rattle.hw_model.specs.Kinds.{Literal, Literals}
use Rattle.hw_model.specs.Kinds.Literal.{leaf, parts}
use Rattle.hw_model.specs.Kinds.Literals.{no_literals, literal}
use Rattle.hw_model.specs.Opcodes.{opcode_of}
use Rattle.hw_model.specs.Design.{Attribute, Entry, same_name}
use Rattle.hw_model.specs.Design.Attribute.{text_value}
use Rattle.type_inference.specs.ResultTypes.{result_types}
use Rattle.mlir_lexer.specs.Classes.{is_digit}
use Rattle.mlir_lexer.specs.Runs.{run}
use Rattle.mlir_lexer.specs.Tokens.{TextToken}
use Rattle.mlir_lexer.specs.declared.token.TokenKind.TheVariants as kind
use Rattle.mlir_syntax.specs.Numerals.{count_limit}
use Rattle.mlir_syntax.specs.AttributeText.{is_among}
use Rattle.mlir_operations.specs.OperandText.{ResultNames}
use Rattle.mlir_operations.specs.OperandText.ResultNames.{no_names, names, pack}
use Rattle.mlir_operations.specs.ElementText.{InherentAttributes, Gathered, gathered_nothing}
use Rattle.mlir_operations.specs.ElementText.InherentAttributes.{with_async_reset, position, number, literals, field_name, child}
use Rattle.assembly_format.specs.Formats.{prefix_elements, type_elements}
use Rattle.assembly_format.specs.declared.elements.Format.{Format}
use Rattle.mlir_operations.specs.OperationText.{OperationText, given_entries}
use Rattle.stored_form.specs.Dictionaries.{takes_bin, string_keys}
use Rattle.mlir_reader.specs.Resolving as read
use Rattle.mlir_reader.specs.Resolving.{Meanings, resolve_operand, inherent_position, inherent_number, inherent_literals, inherent_field, inherent_instance, firreg_kind, inherent_kind, kind_named}
use Rattle.mlir_reader.specs.Resolving.{sort_entries, without, kept_entries, text_in, given_name, unless_digits, name_or, own_name_of, marks, marked_results, operation_definitions, operation_at}
use Rattle.stored_form.specs.Constants.{has_negative, kept_number, kept_integer, kept_by_first, kept_literal, kept_literals}
use Rattle.stored_form.specs.Dictionaries.{is_dropped, has_name, is_name_entry}
use Rattle.mlir_operations.specs.Spelling.{Stands, IsOneOf, FormPhrase, BinPhrase, ResultsPhrase, StandsInBody, OperationPhrase}
use Rattle.mlir_syntax.specs.Spelling.{AreOnce, DictionaryPhrase, EntryPhrase, MaybeDictionary}
use Rattle.stored_form.specs.Canonical.{IsCanonicalOp}
use Rattle.stored_form.specs.ResultTypes.{HaveTypes}
use Rattle.stored_form.specs.Bytes.{Each, AreBytes}
use Rattle.stored_form.specs.Limits.{IsInteger, IsLiteral, AreLiterals, IsValue, IsEntry}
use Rattle.stored_form.specs.Dictionaries.{AreInOrder, IsKeptDictionary}
use Rattle.stored_form.specs.Kinds.{KeepsConstants, IsWritten, IsWrittenInstance}
use Rattle.mlir_reader.proofs.canonical.EntryOrder.{put_in_order, each_put}
use Rattle.mlir_reader.proofs.canonical.TokenCounts.{names_few}
use Rattle.mlir_reader.proofs.canonical.ReadBytes.{AreTexts, said, said_first, said_then, held_bytes, each_read, entry_read}
use Rattle.mlir_reader.proofs.canonical.ReadElements.{each_weaker, IsReadInherentAttributes, IsReadPart, elements_read}

-- ---- dictionaries

-- no two of the entries have one key
abbrev AreApart : List Entry → Type 0
AreApart [] = ⊤
AreApart (e ∷ es) = Each (λ (x : Entry). same_name e.key x.key ≡ false) es × AreApart es

among_push : (key : Name) (ns : List Name) (n : Name) → is_among key (ns ++ n ∷ []) ≡ false → (is_among key ns ≡ false) × (same_name n key ≡ false)
among_push key [] n h = (refl, go (same_name n key) h)
  where
    go : (b : Bool) → cond b true false ≡ false → b ≡ false
    go true e = cc
    go false e = refl
among_push key (m ∷ ns) n h = go (same_name m key) h (among_push key ns n)
  where
    go : (b : Bool) → cond b true (is_among key (ns ++ n ∷ [])) ≡ false
        → (is_among key (ns ++ n ∷ []) ≡ false → (is_among key ns ≡ false) × (same_name n key ≡ false))
        → (cond b true (is_among key ns) ≡ false) × (same_name n key ≡ false)
    go true e r = cc
    go false e r = r e

once_apart : (earlier : List Name) (es : List Entry) → AreOnce earlier es → Each (λ (x : Entry). is_among x.key earlier ≡ false) es × AreApart es
once_apart earlier [] h = (tt, tt)
once_apart earlier (e ∷ es) h =
    let r = once_apart (earlier ++ e.key ∷ []) es h.1 in
    let prefix = each_weaker (λ (x : Entry). is_among x.key (earlier ++ e.key ∷ []) ≡ false) (λ (x : Entry). is_among x.key earlier ≡ false)
    (λ x a. (among_push x.key earlier e.key a).0) es r.0 in
    let apart = each_weaker (λ (x : Entry). is_among x.key (earlier ++ e.key ∷ []) ≡ false) (λ (x : Entry). same_name e.key x.key ≡ false)
    (λ x a. (among_push x.key earlier e.key a).1) es r.0 in
    ((h.0, prefix), (apart, r.1))

each_without : (P : Entry → Type 0) (test : Entry → Bool) (es : List Entry) → Each P es → Each P (without test es)
each_without P test [] h = tt
each_without P test (e ∷ es) h = go (test e) (each_without P test es h.1)
  where
    go : (b : Bool) → Each P (without test es) → Each P (cond b (without test es) (e ∷ without test es))
    go true r = r
    go false r = (h.0, r)

apart_without : (test : Entry → Bool) (es : List Entry) → AreApart es → AreApart (without test es)
apart_without test [] h = tt
apart_without test (e ∷ es) h = go (test e) (apart_without test es h.1)
  where
    go : (b : Bool) → AreApart (without test es) → AreApart (cond b (without test es) (e ∷ without test es))
    go true r = r
    go false r = (each_without (λ (x : Entry). same_name e.key x.key ≡ false) test es h.0, r)

none_left : (test : Entry → Bool) (es : List Entry) → Each (λ (e : Entry). test e ≡ false) (without test es)
none_left test [] = tt
none_left test (e ∷ es) = go (test e) refl (none_left test es)
  where
    go : (b : Bool) → test e ≡ b → Each (λ (e : Entry). test e ≡ false) (without test es)
        → Each (λ (e : Entry). test e ≡ false) (cond b (without test es) (e ∷ without test es))
    go true h r = r
    go false h r = (h, r)

each_sorted : (P : Entry → Type 0) (es : List Entry) → Each P es → Each P (sort_entries es)
each_sorted P [] h = tt
each_sorted P (e ∷ es) h = each_put P e (sort_entries es) h.0 (each_sorted P es h.1)

sorted_in_order : (es : List Entry) → AreApart es → AreInOrder (sort_entries es)
sorted_in_order [] h = tt
sorted_in_order (e ∷ es) h = put_in_order e (sort_entries es) (sorted_in_order es h.1) (each_sorted (λ (x : Entry). same_name e.key x.key ≡ false) es h.0)

-- a dictionary as it is read
pub record IsReadDictionary (strings : List Name) (es : List Entry) : Type 0 where
  pub once : AreOnce [] es
  pub each : Each (IsEntry strings) es

pub kept_read : (o : Listed) (strings : List Name) (es : List Entry) → IsReadDictionary strings es → IsKeptDictionary o strings (kept_entries o es)
kept_read o strings es h = record {
  in_order = sorted_in_order (without (is_dropped o) es) (apart_without (is_dropped o) es (once_apart [] es h.once).1);
  kept = each_sorted (λ (e : Entry). is_dropped o e ≡ false) (without (is_dropped o) es) (none_left (is_dropped o) es);
  entries = each_sorted (IsEntry strings) (without (is_dropped o) es) (each_without (IsEntry strings) (is_dropped o) es h.each);
}

pub dictionary_read : (strings : List Name) (es : List Entry) (ts : List TextToken) → AreTexts ts → DictionaryPhrase strings es ts
    → IsReadDictionary strings es
dictionary_read strings es ts texts h =
    let entries = said_first (said_then (said ts texts h.1)) in
    record { once = h.0; each = each_read (EntryPhrase strings) (IsEntry strings) (entry_read strings) es entries.symbols entries.texts entries.is }

maybe_read : (strings : List Name) (es : Option (List Entry)) (ts : List TextToken) → AreTexts ts → MaybeDictionary strings es ts
    → IsReadDictionary strings (given_entries es)
maybe_read strings None ts texts h = record { once = tt; each = tt }
maybe_read strings (Some es) ts texts h = dictionary_read strings es ts texts h

one_read : (strings : List Name) (early late : Option (List Entry)) (all : List Entry) → IsOneOf early late all
    → IsReadDictionary strings (given_entries early) → IsReadDictionary strings (given_entries late) → IsReadDictionary strings all
one_read strings (Some es) late all h e l = subst (IsReadDictionary strings) (sym h.1) e
one_read strings None late all h e l = subst (IsReadDictionary strings) (sym h) l

-- ---- constants

number_kept : (w : ℕ) (z : ℤ) → kept_number w (kept_number w z) ≡ kept_number w z
number_kept w (pos n) = refl
number_kept w (negsuc n) = go (has_negative w n) refl
  where
    go : (b : Bool) → has_negative w n ≡ b → kept_number w (cond b (pos (2 ^ w - 1 - n)) (negsuc n)) ≡ cond b (pos (2 ^ w - 1 - n)) (negsuc n)
    go true e = refl
    go false e = cond-false (has_negative w n) (pos (2 ^ w - 1 - n)) (negsuc n) e

integer_kept : (t : HwType) (z : ℤ) → kept_integer t (kept_integer t z) ≡ kept_integer t z
integer_kept (int w) z = number_kept w z
integer_kept clock z = refl
integer_kept (array n t) z = refl
integer_kept (struct fs) z = refl

by_first_kept : (ts : List HwType) (z : ℤ) → kept_by_first ts (kept_by_first ts z) ≡ kept_by_first ts z
by_first_kept [] z = refl
by_first_kept (t ∷ ts) z = integer_kept t z

mutual
  literal_kept : (l : Literal) → kept_literal (kept_literal l) ≡ kept_literal l
  literal_kept (leaf z t) = ap (λ y. leaf y t) (integer_kept t z)
  literal_kept (parts ls) = ap parts (literals_kept ls)

  literals_kept : (ls : Literals) → kept_literals (kept_literals ls) ≡ kept_literals ls
  literals_kept no_literals = refl
  literals_kept (literal l ls) =
      ap (λ x. literal x (kept_literals (kept_literals ls))) (literal_kept l) ∙ ap (λ x. literal (kept_literal l) x) (literals_kept ls)

number_small : (w : ℕ) (z : ℤ) → IsInteger z → IsInteger (kept_number w z)
number_small w (pos n) h = h
number_small w (negsuc n) h = go (has_negative w n) refl
  where
    go : (b : Bool) → has_negative w n ≡ b → IsInteger (cond b (pos (2 ^ w - 1 - n)) (negsuc n))
    go false e = h
    go true e =
        let p = and_parts (nat_lt 0 w) (nat_lt w 129 && nat_lt n (2 ^ (w - 1))) e in
        let q = and_parts (nat_lt w 129) (nat_lt n (2 ^ (w - 1))) p.1 in
        let narrow = ltb-true w 129 q.0 in
        let wide : 2 ^ w ≤ 2 ^ 128 = pow_mono {i = w} {j = 128} (omega (arith, narrow)) in
        omega (arith, wide)

integer_small : (t : HwType) (z : ℤ) → IsInteger z → IsInteger (kept_integer t z)
integer_small (int w) z h = number_small w z h
integer_small clock z h = h
integer_small (array n t) z h = h
integer_small (struct fs) z h = h

by_first_small : (ts : List HwType) (z : ℤ) → IsInteger z → IsInteger (kept_by_first ts z)
by_first_small [] z h = h
by_first_small (t ∷ ts) z h = integer_small t z h

mutual
  literal_small : (l : Literal) (room : ℕ) → IsLiteral l room → IsLiteral (kept_literal l) room
  literal_small (leaf z t) room h = (integer_small t z h.0, h.1)
  literal_small (parts ls) zero h = h
  literal_small (parts ls) (suc room) h = literals_small ls room h

  literals_small : (ls : Literals) (room : ℕ) → AreLiterals ls room → AreLiterals (kept_literals ls) room
  literals_small no_literals room h = tt
  literals_small (literal l ls) room h = (literal_small l room h.0, literals_small ls room h.1)

-- ---- kinds

-- a `seq.firreg`, whatever resets it
firreg_listed : (e : InherentAttributes) → opcode_of (firreg_kind e) ≡ listed.SeqFirreg
firreg_listed with_async_reset = refl
firreg_listed _ = refl

firreg_kept : (e : InherentAttributes) (ts : List HwType) → KeepsConstants (firreg_kind e) ts
firreg_kept with_async_reset ts = tt
firreg_kept _ ts = tt

firreg_written : (e : InherentAttributes) → IsWritten (firreg_kind e)
firreg_written with_async_reset = tt
firreg_written _ = tt

listed_again : (o : Listed) (e : InherentAttributes) (ts : List HwType) → StandsInBody o → opcode_of (kind_named o e ts) ≡ o
unfolding inherent_kind
listed_again listed.HwModule e ts h = absurd h
listed_again listed.SeqFirreg e ts h = firreg_listed e
listed_again _ e ts h = refl

constants_kept : (o : Listed) (e : InherentAttributes) (ts : List HwType) → KeepsConstants (kind_named o e ts) ts
unfolding inherent_kind
constants_kept listed.HwConstant e ts = by_first_kept ts (inherent_number e)
constants_kept listed.HwAggregateConstant e ts = literals_kept (inherent_literals e)
constants_kept listed.SeqFirreg e ts = firreg_kept e ts
constants_kept _ e ts = tt

position_written : (e : InherentAttributes) → IsReadInherentAttributes e → inherent_position e < count_limit
position_written (position n) h = h
position_written _ h = omega arith

number_written : (e : InherentAttributes) → IsReadInherentAttributes e → IsInteger (inherent_number e)
number_written (number z) h = h
number_written _ h = omega arith

literals_written : (e : InherentAttributes) → IsReadInherentAttributes e → AreLiterals (inherent_literals e) 31
literals_written (literals ls) h = h
literals_written _ h = tt

field_written : (e : InherentAttributes) → IsReadInherentAttributes e → AreBytes (inherent_field e)
field_written (field_name name) h = h
field_written _ h = tt

instance_written : (e : InherentAttributes) → IsReadInherentAttributes e → IsWrittenInstance (inherent_instance e)
instance_written (child i) h = h
instance_written _ h = record { name = tt; inner = tt; symbol = tt; inputs = tt; outputs = tt }

kind_written : (o : Listed) (e : InherentAttributes) (ts : List HwType) → IsReadInherentAttributes e → IsWritten (kind_named o e ts)
unfolding inherent_kind
kind_written listed.CombExtract e ts h = position_written e h
kind_written listed.HwConstant e ts h = by_first_small ts (inherent_number e) (number_written e h)
kind_written listed.HwAggregateConstant e ts h = literals_small (inherent_literals e) 31 (literals_written e h)
kind_written listed.HwStructExtract e ts h = field_written e h
kind_written listed.HwStructInject e ts h = field_written e h
kind_written listed.HwInstance e ts h = instance_written e h
kind_written listed.SeqFirreg e ts h = firreg_written e
kind_written _ e ts h = tt

-- ---- own names

text_bytes : (b : Bool) (v : Attribute) → IsValue b v → AreBytes (text_in v)
text_bytes b (text_value text) h = h
text_bytes b _ h = tt

given_bytes : (strings : List Name) (es : List Entry) (other : Name) → Each (IsEntry strings) es → AreBytes other
    → AreBytes (name_or (given_name es) other)
given_bytes strings [] other h g = g
given_bytes strings (e ∷ es) other h g = go (is_name_entry e) (given_bytes strings es other h.1 g)
  where
    go : (b : Bool) → AreBytes (name_or (given_name es) other) → AreBytes (name_or (cond b (Some (text_in e.value)) (given_name es)) other)
    go true r = text_bytes (is_among e.key strings) e.value h.0.value
    go false r = r

unless_bytes : (n : Name) → AreBytes n → AreBytes (unless_digits n)
unless_bytes n h = go (nat_eq (run is_digit n) (length n))
  where
    go : (b : Bool) → AreBytes (cond b [] n)
    go true = tt
    go false = h

first_bytes : (r : ResultNames) (ts : List TextToken) → AreTexts ts → ResultsPhrase r ts → AreBytes (read.first_name r)
first_bytes no_names ts texts h = tt
first_bytes (names n []) ts texts h = let name = said_first (said ts texts h) in unless_bytes n (held_bytes kind.ValueName n name.symbols name.texts name.is)
first_bytes (names n (m ∷ ns)) ts texts h =
    let list = said_first (said ts texts h) in
    let name = said_first list in
    unless_bytes n (held_bytes kind.ValueName n name.symbols name.texts name.is)
first_bytes (pack n k) ts texts h = let name = said_first (said ts texts h) in unless_bytes n (held_bytes kind.ValueName n name.symbols name.texts name.is)

own_bytes : (o : Listed) (r : ResultNames) (strings : List Name) (es : List Entry) → AreBytes (read.first_name r) → Each (IsEntry strings) es
    → AreBytes (own_name_of o r es)
own_bytes o r strings es h g = go (has_name o)
  where
    go : (b : Bool) → AreBytes (cond b (name_or (given_name es) (read.first_name r)) [])
    go true = given_bytes strings es (read.first_name r) g h
    go false = tt

-- ---- operations

-- marks say nothing of types
have_types : (ts : List (Option HwType)) (marked : List Bool) → HaveTypes (marked_results ts marked) ts
have_types [] [] = tt
have_types [] (m ∷ ms) = (refl, have_types [] ms)
have_types (t ∷ ts) [] = (refl, have_types ts [])
have_types (t ∷ ts) (m ∷ ms) = (refl, have_types ts ms)

bin_read : (o : Listed) (b : Bool) (ts : List TextToken) → BinPhrase o b ts → b ≡ true → takes_bin o ≡ true
bin_read o true ts h e = h.0
bin_read o false ts h e = cc

-- what is read after an operation's name
record IsReadTail (strings : List Name) (g : Gathered) (es : List Entry) : Type 0 where
  part : IsReadPart g
  dictionary : IsReadDictionary strings es

form_read : (strings : List Name) (format : Format) (h : Gathered) (es : List Entry) (ts : List TextToken) → AreTexts ts → FormPhrase strings format h es ts
    → IsReadTail strings h es
form_read strings format h es ts texts f =
    let all = said ts texts f.4 in
    let elements = said_first all in
    let before = said_first (said_then all) in
    let types = said_first (said_then (said_then all)) in
    let following = said_then (said_then (said_then all)) in
    let prefix = elements_read (prefix_elements format) gathered_nothing f.0 elements.symbols elements.texts (record { types = tt; inherent = tt }) elements.is in
    record {
      part = elements_read (type_elements format) f.0 h types.symbols types.texts prefix types.is;
      dictionary = one_read strings f.1 f.2 es f.3 (maybe_read strings f.1 before.symbols before.texts before.is)
          (maybe_read strings f.2 following.symbols following.texts following.is);
    }

pub op_read : (At : Stands) (o : OperationText) (ts : List TextToken) (means earlier : Meanings) (i : ℕ) → AreTexts ts → length ts < count_limit
    → OperationPhrase At o ts → IsCanonicalOp (operation_at means earlier i o)
op_read At o ts means earlier i texts small h =
    let all = said ts texts h.1 in
    let given = said_first all in
    let following = said_then (said_then all) in
    let binary = said_first following in
    let form = said_then following in
    let f = form.is in
    let given_few = given.few in
    let tail = form_read (string_keys o.name) f.0 o.gathered o.dictionary form.symbols form.texts f.2 in
    let k = kind_named o.name o.gathered.inherent o.gathered.types in
    let same : opcode_of k ≡ o.name = listed_again o.name o.gathered.inherent o.gathered.types h.0 in
    let own = result_types k o.gathered.types (length o.gathered.operands) in
    let marked = marks earlier (operation_definitions i o) in
    record {
      types =
          subst (λ n. HaveTypes (marked_results own marked) (result_types k o.gathered.types n)) (sym (length-map o.gathered.operands (resolve_operand means)))
          (have_types own marked);
      readable = tail.part.types;
      kept = constants_kept o.name o.gathered.inherent o.gathered.types;
      written = kind_written o.name o.gathered.inherent o.gathered.types tail.part.inherent;
      nameless = λ e. cond-false (has_name o.name) (name_or (given_name o.dictionary) (read.first_name o.results)) [] (ap has_name (sym same) ∙ e);
      name = own_bytes o.name o.results (string_keys o.name) o.dictionary (first_bytes o.results given.symbols given.texts given.is) tail.dictionary.each;
      dictionary =
          subst (λ (l : Listed). IsKeptDictionary l (string_keys l) (kept_entries o.name o.dictionary)) (sym same)
          (kept_read o.name (string_keys o.name) o.dictionary tail.dictionary);
      bin = λ e. ap takes_bin same ∙ bin_read o.name o.bin binary.symbols binary.is e;
      named = names_few o.results given.symbols (omega (arith, given_few, small)) given.is;
    }
