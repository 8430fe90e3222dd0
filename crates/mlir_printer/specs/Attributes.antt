-- How attributes and dictionaries are printed (MLIR language reference: "Attributes", dictionary attributes).
use Rattle.std.specs.Ordering.{nat_cmp, is_lt}
use Rattle.std.specs.Cmp.Lexicographic.{slice_cmp}
use Rattle.std.specs.Prelude.{ℕ, suc, ◌+◌, cond, List, [], ◌∷◌, ◌++◌, codes, ℤ}
use Rattle.hw_model.specs.Types.{HwType}
use Rattle.hw_model.specs.Design.{Attribute, Attributes, Entry}
use Rattle.hw_model.specs.Design.Attribute.{unit_value, text_value, symbol_value, truth_value, integer_value, list_value}
use Rattle.hw_model.specs.Design.Attributes.{no_attributes, attribute}
use Rattle.mlir_printer.specs.Strings.{string_bytes, name_bytes, symbol_bytes}
use Rattle.printing_laws.specs.Numbers.{integer_bytes, truth_bytes}
use Rattle.mlir_printer.specs.Types.{type_bytes}
use Rattle.mlir_printer.specs.Commas.{comma_bytes, commas}

-- an integer and its type
unfoldable pub typed_bytes : ℤ → HwType → List ℕ
typed_bytes z t = integer_bytes z ++ (codes " : " ++ type_bytes t)

abbrev mutual
  -- an attribute: an integer always with its type; a unit is nothing
  pub attribute_bytes : Attribute → List ℕ
  attribute_bytes unit_value = []
  attribute_bytes (text_value text) = string_bytes text
  attribute_bytes (symbol_value name) = symbol_bytes name
  attribute_bytes (truth_value b) = truth_bytes b
  attribute_bytes (integer_value z t) = typed_bytes z t
  attribute_bytes (list_value inner) = codes "[" ++ (attributes_from 0 inner ++ codes "]")

  -- attributes with commas between them, of which the first has this number
  pub attributes_from : ℕ → Attributes → List ℕ
  attributes_from i no_attributes = []
  attributes_from i (attribute a rest) = comma_bytes i ++ (attribute_bytes a ++ attributes_from (i + 1) rest)

-- ` = V`, or nothing for a unit
abbrev pub value_bytes : Attribute → List ℕ
value_bytes unit_value = []
value_bytes (text_value text) = codes " = " ++ attribute_bytes (text_value text)
value_bytes (symbol_value name) = codes " = " ++ attribute_bytes (symbol_value name)
value_bytes (truth_value b) = codes " = " ++ attribute_bytes (truth_value b)
value_bytes (integer_value z t) = codes " = " ++ attribute_bytes (integer_value z t)
value_bytes (list_value inner) = codes " = " ++ attribute_bytes (list_value inner)

-- an entry of a dictionary
unfoldable pub entry_bytes : Entry → List ℕ
entry_bytes e = name_bytes e.key ++ value_bytes e.value

-- a dictionary with something before it, or nothing where it has no entry
unfoldable pub dictionary_bytes : List ℕ → List Entry → List ℕ
dictionary_bytes prefix [] = []
dictionary_bytes prefix (e ∷ es) = prefix ++ (codes "{" ++ (commas entry_bytes (e ∷ es) ++ codes "}"))

-- how many entries have keys that are less than `name`
abbrev pub slot_of_name : List Entry → ℕ
slot_of_name [] = 0
slot_of_name (e ∷ es) = cond (is_lt (slice_cmp nat_cmp e.key (codes "name"))) (suc (slot_of_name es)) 0
