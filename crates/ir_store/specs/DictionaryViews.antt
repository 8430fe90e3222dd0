-- The attributes and entries that values of `Attribute` and `Dictionary` stand for.
use Rattle.std.specs.Prelude.{List, [], ◌∷◌, map}
use Rattle.hw_model.specs.TypeViews.{type_of}
use Rattle.hw_model.specs.KindViews.{integer_of}
use Rattle.hw_model.specs.Design.{Attribute as HwAttribute, Attributes, Entry as HwEntry}
use Rattle.ir_store.specs.declared.dictionary.Attribute.{Attribute}
use Rattle.ir_store.specs.declared.dictionary.AttributeList.{AttributeList}
use Rattle.ir_store.specs.declared.dictionary.Entry.{Entry}
use Rattle.ir_store.specs.declared.dictionary.Dictionary.{Dictionary}
use Rattle.ir_store.specs.declared.dictionary.Attribute.TheOpen.{Attribute-F, AttributeList-F}
use Rattle.ir_store.specs.declared.dictionary.Attribute.TheFolds.{fold-Attribute, fold-AttributeList}

-- attributes in order
abbrev pub attributes_of : List HwAttribute → Attributes
attributes_of [] = Attributes.no_attributes
attributes_of (a ∷ rest) = Attributes.attribute a (attributes_of rest)

-- one level of each, with the attributes inside already seen
abbrev pub attribute_step : Attribute-F HwAttribute Attributes → HwAttribute
attribute_step Attribute-F.Unit = HwAttribute.unit_value
attribute_step (Attribute-F.String text) = HwAttribute.text_value text
attribute_step (Attribute-F.Symbol name) = HwAttribute.symbol_value name
attribute_step (Attribute-F.Bool b) = HwAttribute.truth_value b
attribute_step (Attribute-F.Integer z t) = HwAttribute.integer_value (integer_of z) (type_of t)
attribute_step (Attribute-F.Array inner) = HwAttribute.list_value inner

abbrev pub attributes_step : AttributeList-F HwAttribute Attributes → Attributes
attributes_step l = attributes_of l.attributes.items

-- the attribute
abbrev pub attribute_of : Attribute → HwAttribute
attribute_of = fold-Attribute HwAttribute Attributes attribute_step attributes_step

-- the attributes of a list
abbrev pub attributes_in : AttributeList → Attributes
attributes_in = fold-AttributeList HwAttribute Attributes attribute_step attributes_step

-- an entry of a dictionary
abbrev pub entry_of : Entry → HwEntry
entry_of e = record { key = e.key; value = attribute_of e.value }

-- the entries of a dictionary
abbrev pub entries_in : Dictionary → List HwEntry
entries_in d = map entry_of d.entries.items
