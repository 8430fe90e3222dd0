-- Fields, constants and attributes in lists, as lists of which each member is so.
use Rattle.std.proofs.Common.{ℕ, List, [], ◌∷◌}
use Rattle.hw_model.specs.TypeViews.{NamedType, fields_of}
use Rattle.hw_model.specs.Kinds.{Literal}
use Rattle.hw_model.specs.KindViews.{literals_of}
use Rattle.hw_model.specs.Design.{Attribute}
use Rattle.ir_store.specs.DictionaryViews.{attributes_of}
use Rattle.stored_form.specs.Bytes.{Each}
use Rattle.stored_form.specs.Fields.{IsField}
use Rattle.stored_form.specs.Limits.{AreFields, IsLiteral, AreLiterals, IsAttribute, AreAttributes}

pub each_field : (fs : List NamedType) (room : ℕ) → AreFields (fields_of fs) room → Each (IsField room) fs
each_field [] room h = tt
each_field (f ∷ fs) room h = ((h.0, h.1), each_field fs room h.2)

pub fields_are : (fs : List NamedType) (room : ℕ) → Each (IsField room) fs → AreFields (fields_of fs) room
fields_are [] room h = tt
fields_are (f ∷ fs) room h = (h.0.0, h.0.1, fields_are fs room h.1)

pub each_literal : (ls : List Literal) (room : ℕ) → AreLiterals (literals_of ls) room → Each (λ l. IsLiteral l room) ls
each_literal [] room h = tt
each_literal (l ∷ ls) room h = (h.0, each_literal ls room h.1)

pub literals_are : (ls : List Literal) (room : ℕ) → Each (λ l. IsLiteral l room) ls → AreLiterals (literals_of ls) room
literals_are [] room h = tt
literals_are (l ∷ ls) room h = (h.0, literals_are ls room h.1)

pub each_attribute : (xs : List Attribute) (room : ℕ) → AreAttributes (attributes_of xs) room → Each (λ a. IsAttribute a room) xs
each_attribute [] room h = tt
each_attribute (a ∷ xs) room h = (h.0, each_attribute xs room h.1)

pub attributes_are : (xs : List Attribute) (room : ℕ) → Each (λ a. IsAttribute a room) xs → AreAttributes (attributes_of xs) room
attributes_are [] room h = tt
attributes_are (a ∷ xs) room h = (h.0, attributes_are xs room h.1)
