-- Types are read as they are printed.
use Rattle.std.proofs.Common.{◌≡◌, inl, inr, ℕ, zero, suc, ◌+◌, ◌<◌, false, List, [], ◌∷◌, ◌++◌, refl, sym, ap, arith, append_assoc}
use Rattle.std.specs.Prelude.{codes}
use Rattle.mlir_lexer.specs.Classes.{is_hex_digit}
use Rattle.mlir_lexer.specs.Runs.{begins}
use Rattle.hw_model.specs.Types.{HwType, FieldTypes}
use Rattle.hw_model.specs.Types.HwType.{int, clock, array, struct}
use Rattle.hw_model.specs.Types.FieldTypes.{no_fields, field}
use Rattle.hw_model.specs.TypeViews.{NamedType, fields_of}
use Rattle.mlir_syntax.specs.Numerals.{count_limit}
use Rattle.mlir_syntax.specs.Spelling.{Phrase, Then, NumberPhrase, ElementPhrase, FieldPhrase, TypeWith, TypePhrase}
use Rattle.mlir_printer.specs.Strings.{name_bytes}
use Rattle.printing_laws.specs.Numbers.{count_bytes}
use Rattle.mlir_printer.specs.Commas.{comma_bytes, items_from}
use Rattle.mlir_printer.specs.Types.{type_bytes, fields_from}
use Rattle.stored_form.specs.Bytes.{Each, AreBytes}
use Rattle.stored_form.specs.Limits.{IsType, AreFields}
use Rattle.mlir_printer.proofs.lexed.LexedTexts.{Lexed, lexed, lexed_as, lexed_by, then, then_on, joined, less_mark, greater_mark}
use Rattle.mlir_printer.proofs.lexed.LexedCommas.{colon_blank, commas_lexed, between}
use Rattle.mlir_printer.proofs.lexed.LexedNames.{bare_lexed, name_lexed, type_word_lexed}
use Rattle.mlir_printer.proofs.lexed.LexedNumbers.{EndsNumber, numeral, number_token, width_lexed, glued_lexed}

-- ---- arrays

-- a type begins with no hex digit
no_hex : (t : HwType) (rest : List ℕ) → begins is_hex_digit (type_bytes t ++ rest) ≡ false
no_hex (int w) rest = refl
no_hex clock rest = refl
no_hex (array n t) rest = refl
no_hex (struct fs) rest = refl

element_lexed : (Inner : HwType → Phrase) (t : HwType) → Lexed (Inner t) (type_bytes t) → (room : ℕ) → IsType t room
    → Lexed (ElementPhrase Inner t) (codes "x" ++ type_bytes t)
element_lexed Inner (int w) inner room h = lexed_as (λ ts p. inr p) (glued_lexed w h)
element_lexed Inner clock inner room h = lexed_as (λ ts p. inl p) (then (bare_lexed (codes "x") refl) inner refl)
element_lexed Inner (array n t) inner room h = lexed_as (λ ts p. inl p) (then (bare_lexed (codes "x") refl) inner refl)
element_lexed Inner (struct fs) inner room h = lexed_as (λ ts p. inl p) (then (bare_lexed (codes "x") refl) inner refl)

-- `NxT`
elements_lexed : (Inner : HwType → Phrase) (n : ℕ) (t : HwType) → n < count_limit → Lexed (ElementPhrase Inner t) (codes "x" ++ type_bytes t)
    → Lexed (Then (NumberPhrase count_limit n) (ElementPhrase Inner t)) (count_bytes n ++ (codes "x" ++ type_bytes t))
unfolding count_bytes
elements_lexed Inner n t small element = record {
  lex = λ rest location at stops.
      let ends : EndsNumber ((codes "x" ++ type_bytes t) ++ rest) = record { digits = refl; base = no_hex t rest } in
      let one = number_token count_limit n small _ (numeral n (omega (arith, small))) ((codes "x" ++ type_bytes t) ++ rest) ends location at in
      joined one (element.lex rest one.end one.following stops);
}

array_lexed : (Inner : HwType → Phrase) (n : ℕ) (t : HwType) → n < count_limit → Lexed (ElementPhrase Inner t) (codes "x" ++ type_bytes t)
    → Lexed (TypeWith Inner (array n t)) (type_bytes (array n t))
array_lexed Inner n t small element =
    let inside = elements_lexed Inner n t small element in
    let all = between 62 [] less_mark inside greater_mark refl in
    let word = type_word_lexed (codes "hw.array") (omega arith) refl in
    lexed_by (ap (λ x. codes "!hw.array<" ++ x) (append_assoc (count_bytes n) (codes "x" ++ type_bytes t) (codes ">")))
    (then word (lexed all) refl)

-- ---- structs

-- fields in order
pub in_fields : FieldTypes → List NamedType
in_fields no_fields = []
in_fields (field name t fs) = record { name = name; type = t } ∷ in_fields fs

fields_back : (fs : FieldTypes) → fields_of (in_fields fs) ≡ fs
unfolding in_fields
fields_back no_fields = refl
fields_back (field name t fs) = ap (field name t) (fields_back fs)

-- `f: T`
abbrev pub field_bytes : NamedType → List ℕ
field_bytes f = name_bytes f.name ++ (codes ": " ++ type_bytes f.type)

fields_bytes : (i : ℕ) (fs : FieldTypes) → fields_from i fs ≡ items_from field_bytes i (in_fields fs)
unfolding in_fields
fields_bytes i no_fields = refl
fields_bytes i (field name t fs) = ap (λ x. comma_bytes i ++ ((name_bytes name ++ (codes ": " ++ type_bytes t)) ++ x)) (fields_bytes (i + 1) fs)

pub field_lexed : (Inner : HwType → Phrase) (f : NamedType) → AreBytes f.name → Lexed (Inner f.type) (type_bytes f.type)
    → Lexed (FieldPhrase Inner f) (field_bytes f)
field_lexed Inner f small inner = then (name_lexed f.name small) (then_on colon_blank inner) refl

struct_lexed : (Inner : HwType → Phrase) (fs : FieldTypes) → Each (λ f. Lexed (FieldPhrase Inner f) (field_bytes f)) (in_fields fs)
    → Lexed (TypeWith Inner (struct fs)) (type_bytes (struct fs))
struct_lexed Inner fs each =
    let inside = commas_lexed (FieldPhrase Inner) field_bytes (in_fields fs) each in
    let all = between 62 [] less_mark inside greater_mark refl in
    let word = type_word_lexed (codes "hw.struct") (omega arith) refl in
    let says = lexed_as (λ ts p. (in_fields fs, ap struct (sym (fields_back fs)), p)) (lexed all) in
    lexed_by (ap (λ x. codes "!hw.struct<" ++ (x ++ codes ">")) (sym (fields_bytes 0 fs))) (then word says refl)

-- ---- types

clock_lexed : Lexed (Rattle.mlir_syntax.specs.Spelling.TypeWord (codes "seq.clock")) (codes "!seq.clock")
clock_lexed = type_word_lexed (codes "seq.clock") (omega arith) refl

mutual
  unfolding in_fields

  -- a type is read as itself
  pub type_lexed : (t : HwType) (room : ℕ) → IsType t room → Lexed (TypePhrase room t) (type_bytes t)
  type_lexed (int w) zero h = width_lexed w h
  type_lexed (int w) (suc room) h = width_lexed w h
  type_lexed clock zero h = clock_lexed
  type_lexed clock (suc room) h = clock_lexed
  type_lexed (array n t) zero h = absurd h.1
  type_lexed (array n t) (suc room) h =
      array_lexed (TypePhrase room) n t h.0 (element_lexed (TypePhrase room) t (type_lexed t room h.1) room h.1)
  type_lexed (struct fs) zero h = absurd h
  type_lexed (struct fs) (suc room) h = struct_lexed (TypePhrase room) fs (fields_lexed fs room h)

  fields_lexed : (fs : FieldTypes) (room : ℕ) → AreFields fs room → Each (λ f. Lexed (FieldPhrase (TypePhrase room) f) (field_bytes f)) (in_fields fs)
  fields_lexed no_fields room h = tt
  fields_lexed (field name t fs) room h =
      (field_lexed (TypePhrase room) (record { name = name; type = t }) h.0 (type_lexed t room h.1), fields_lexed fs room h.2)
