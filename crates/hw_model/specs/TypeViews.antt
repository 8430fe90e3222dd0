-- The types that values of `Ty` stand for.
use Rattle.std.specs.Prelude.{List, [], ◌∷◌}
use Rattle.hw_model.specs.Types.{Name, HwType, FieldTypes}
use Rattle.hw_model.specs.Types.HwType.{int, clock, array, struct}
use Rattle.hw_model.specs.Types.FieldTypes.{no_fields, field}
use Rattle.hw_model.specs.declared.types.Ty.{Ty}
use Rattle.hw_model.specs.declared.types.Field.{Field}
use Rattle.hw_model.specs.declared.types.FieldList.{FieldList}
use Rattle.hw_model.specs.declared.types.Ty.TheOpen.{Ty-F, Field-F, FieldList-F}
use Rattle.hw_model.specs.declared.types.Ty.TheFolds.{fold-Ty, fold-Field, fold-FieldList}

-- a field's name and the type of its part
pub record NamedType : Type 0 where
  pub name : Name
  pub type : HwType

-- fields in order
abbrev pub fields_of : List NamedType → FieldTypes
fields_of [] = no_fields
fields_of (f ∷ fs) = field f.name f.type (fields_of fs)

-- one level of each, with the types inside already seen
abbrev pub type_step : Ty-F HwType NamedType FieldTypes → HwType
type_step (Ty-F.Int w) = int w
type_step Ty-F.Clock = clock
type_step (Ty-F.Array n t) = array n t.value
type_step (Ty-F.Struct fs) = struct fs

abbrev pub field_step : Field-F HwType NamedType FieldTypes → NamedType
field_step f = record { name = f.name; type = f.ty }

abbrev pub fields_step : FieldList-F HwType NamedType FieldTypes → FieldTypes
fields_step l = fields_of l.fields.items

-- the type
abbrev pub type_of : Ty → HwType
type_of = fold-Ty HwType NamedType FieldTypes type_step field_step fields_step

-- a field's name and its type
abbrev pub field_of : Field → NamedType
field_of = fold-Field HwType NamedType FieldTypes type_step field_step fields_step

-- the types of a list of fields
abbrev pub fields_in : FieldList → FieldTypes
fields_in = fold-FieldList HwType NamedType FieldTypes type_step field_step fields_step
