-- What is within the limits of a text: numbers, widths, and how deep types, constants and attributes are nested.
use Rattle.std.specs.Prelude.{◌≡◌, ℕ, zero, suc, ◌<◌, Bool, true, false, List, ℤ, pos, negsuc, ⊤}
use Rattle.hw_model.specs.Types.{Name, HwType, FieldTypes}
use Rattle.hw_model.specs.Types.HwType.{int, clock, array, struct}
use Rattle.hw_model.specs.Types.FieldTypes.{no_fields, field}
use Rattle.hw_model.specs.Kinds.{Literal, Literals}
use Rattle.hw_model.specs.Kinds.Literal.{leaf, parts}
use Rattle.hw_model.specs.Kinds.Literals.{no_literals, literal}
use Rattle.hw_model.specs.Design.{Attribute, Attributes, Entry}
use Rattle.hw_model.specs.Design.Attribute.{unit_value, text_value, symbol_value, truth_value, integer_value, list_value}
use Rattle.hw_model.specs.Design.Attributes.{no_attributes, attribute}
use Rattle.mlir_syntax.specs.Numerals.{count_limit, number_limit}
use Rattle.mlir_syntax.specs.TypeText.{most_open}
use Rattle.mlir_syntax.specs.AttributeText.{is_among, is_stored}
use Rattle.stored_form.specs.Bytes.{AreBytes}

-- ---- numbers and types

-- an integer that is read: its distance from 0 is below 2^128
abbrev pub IsInteger : ℤ → Type 0
IsInteger (pos n) = n < number_limit
IsInteger (negsuc n) = suc n < number_limit

-- aggregates may be opened: so many more, of which there is one at least
abbrev pub Opens : (ℕ → Type 0) → ℕ → Type 0
Opens Inner zero = ⊥
Opens Inner (suc room) = Inner room

abbrev mutual
  -- a type that is read where so many aggregates may be opened: widths and lengths are below their limit, names are bytes
  pub IsType : HwType → ℕ → Type 0
  IsType (int w) room = w < count_limit
  IsType clock room = ⊤
  IsType (array n t) room = (n < count_limit) × Opens (λ inner. IsType t inner) room
  IsType (struct fs) room = Opens (λ inner. AreFields fs inner) room

  pub AreFields : FieldTypes → ℕ → Type 0
  AreFields no_fields room = ⊤
  AreFields (field name t fs) room = AreBytes name × IsType t room × AreFields fs room

-- a type where nothing is open
abbrev pub IsAnyType : HwType → Type 0
IsAnyType t = IsType t most_open

-- ---- constants of aggregates, attributes, entries

abbrev mutual
  -- a constant that is read where so many lists may be opened
  pub IsLiteral : Literal → ℕ → Type 0
  IsLiteral (leaf z t) room = IsInteger z × IsType t room
  IsLiteral (parts ls) room = Opens (λ inner. AreLiterals ls inner) room

  pub AreLiterals : Literals → ℕ → Type 0
  AreLiterals no_literals room = ⊤
  AreLiterals (literal l ls) room = IsLiteral l room × AreLiterals ls room

abbrev mutual
  -- an attribute that is read where so many lists may be opened; a unit stands in no list
  pub IsAttribute : Attribute → ℕ → Type 0
  IsAttribute unit_value room = ⊥
  IsAttribute (text_value text) room = AreBytes text
  IsAttribute (symbol_value name) room = AreBytes name
  IsAttribute (truth_value b) room = ⊤
  IsAttribute (integer_value z t) room = (is_stored z ≡ true) × IsType t room
  IsAttribute (list_value inner) room = Opens (λ more. AreAttributes inner more) room

  pub AreAttributes : Attributes → ℕ → Type 0
  AreAttributes no_attributes room = ⊤
  AreAttributes (attribute a rest) room = IsAttribute a room × AreAttributes rest room

-- the value of a key: of some keys it is a string, of another one an attribute or nothing
abbrev pub IsValue : Bool → Attribute → Type 0
IsValue of_string unit_value = of_string ≡ false
IsValue of_string (text_value text) = AreBytes text
IsValue of_string a = (of_string ≡ false) × IsAttribute a most_open

-- an entry of a dictionary, where the values of some keys are strings
pub record IsEntry (strings : List Name) (e : Entry) : Type 0 where
  -- a bare name or a string can hold the key
  pub key : AreBytes e.key
  -- the value is one that may stand after the key
  pub value : IsValue (is_among e.key strings) e.value
