-- Types, attributes and constants hold no line feeds.
use Rattle.std.proofs.Common.{ℕ, ◌+◌, List, [], ◌∷◌, refl}
use Rattle.std.specs.Prelude.{codes, ℤ}
use Rattle.hw_model.specs.Types.{HwType, FieldTypes}
use Rattle.hw_model.specs.Types.HwType.{int, clock, array, struct}
use Rattle.hw_model.specs.Types.FieldTypes.{no_fields, field}
use Rattle.hw_model.specs.Kinds.{Literal, Literals}
use Rattle.hw_model.specs.Kinds.Literal.{leaf, parts}
use Rattle.hw_model.specs.Kinds.Literals.{no_literals, literal}
use Rattle.hw_model.specs.Design.{Attribute, Attributes, Entry}
use Rattle.hw_model.specs.Design.Attribute.{unit_value, text_value, symbol_value, truth_value, integer_value, list_value}
use Rattle.hw_model.specs.Design.Attributes.{no_attributes, attribute}
use Rattle.printing_laws.specs.Numbers.{is_shown_as_truth, is_one}
use Rattle.mlir_printer.specs.Types.{type_bytes, fields_from}
use Rattle.mlir_printer.specs.Attributes.{typed_bytes, attribute_bytes, attributes_from, value_bytes, entry_bytes, dictionary_bytes}
use Rattle.mlir_printer.specs.Literals.{leaf_bytes, literal_bytes, literals_from}
use Rattle.mlir_printer.proofs.lines.QuietWords.{Quiet, both, after, word, none, either, count_quiet, integer_quiet, truth_quiet, string_quiet, name_quiet, symbol_quiet, comma_quiet, commas_quiet, every}

mutual
  pub type_quiet : (t : HwType) → Quiet (type_bytes t)
  type_quiet (int w) = after (codes "i") refl (count_quiet w)
  type_quiet clock = word (codes "!seq.clock") refl
  type_quiet (array n t) = after (codes "!hw.array<") refl (both (count_quiet n) (after (codes "x") refl (both (type_quiet t) (word (codes ">") refl))))
  type_quiet (struct fs) = after (codes "!hw.struct<") refl (both (fields_quiet 0 fs) (word (codes ">") refl))

  fields_quiet : (i : ℕ) (fs : FieldTypes) → Quiet (fields_from i fs)
  fields_quiet i no_fields = none
  fields_quiet i (field name t fs) = both (comma_quiet i) (both (both (name_quiet name) (after (codes ": ") refl (type_quiet t))) (fields_quiet (i + 1) fs))

typed_quiet : (z : ℤ) (t : HwType) → Quiet (typed_bytes z t)
unfolding typed_bytes
typed_quiet z t = both (integer_quiet z) (after (codes " : ") refl (type_quiet t))

mutual
  attribute_quiet : (a : Attribute) → Quiet (attribute_bytes a)
  attribute_quiet unit_value = none
  attribute_quiet (text_value text) = string_quiet text
  attribute_quiet (symbol_value name) = symbol_quiet name
  attribute_quiet (truth_value b) = truth_quiet b
  attribute_quiet (integer_value z t) = typed_quiet z t
  attribute_quiet (list_value inner) = after (codes "[") refl (both (attributes_quiet 0 inner) (word (codes "]") refl))

  attributes_quiet : (i : ℕ) (all : Attributes) → Quiet (attributes_from i all)
  attributes_quiet i no_attributes = none
  attributes_quiet i (attribute a rest) = both (comma_quiet i) (both (attribute_quiet a) (attributes_quiet (i + 1) rest))

value_quiet : (a : Attribute) → Quiet (value_bytes a)
value_quiet unit_value = none
value_quiet (text_value text) = after (codes " = ") refl (attribute_quiet (text_value text))
value_quiet (symbol_value name) = after (codes " = ") refl (attribute_quiet (symbol_value name))
value_quiet (truth_value b) = after (codes " = ") refl (attribute_quiet (truth_value b))
value_quiet (integer_value z t) = after (codes " = ") refl (attribute_quiet (integer_value z t))
value_quiet (list_value inner) = after (codes " = ") refl (attribute_quiet (list_value inner))

entry_quiet : (e : Entry) → Quiet (entry_bytes e)
unfolding entry_bytes
entry_quiet e = both (name_quiet e.key) (value_quiet e.value)

pub dictionary_quiet : (prefix : List ℕ) (es : List Entry) → Quiet prefix → Quiet (dictionary_bytes prefix es)
unfolding dictionary_bytes
dictionary_quiet prefix [] h = none
dictionary_quiet prefix (e ∷ es) h = both h (after (codes "{") refl (both (commas_quiet entry_bytes (e ∷ es) (every entry_quiet (e ∷ es))) (word (codes "}") refl)))

leaf_quiet : (z : ℤ) (t : HwType) → Quiet (leaf_bytes z t)
unfolding leaf_bytes
leaf_quiet z t = either (is_shown_as_truth t z) (truth_quiet (is_one z)) (typed_quiet z t)

mutual
  literal_quiet : (l : Literal) → Quiet (literal_bytes l)
  literal_quiet (leaf z t) = leaf_quiet z t
  literal_quiet (parts ls) = after (codes "[") refl (both (literals_quiet 0 ls) (word (codes "]") refl))

  pub literals_quiet : (i : ℕ) (ls : Literals) → Quiet (literals_from i ls)
  literals_quiet i no_literals = none
  literals_quiet i (literal l ls) = both (comma_quiet i) (both (literal_quiet l) (literals_quiet (i + 1) ls))
