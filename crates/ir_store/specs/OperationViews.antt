-- What values of the parts of an operation stand for.
use Rattle.std.specs.Prelude.{ℕ, Bool, false, List, [], ◌∷◌, map}
use Rattle.hw_model.specs.Types.{Name, HwType}
use Rattle.hw_model.specs.Kinds.{Kind}
use Rattle.hw_model.specs.TypeViews.{type_of}
use Rattle.hw_model.specs.declared.types.Ty.{Ty}
use Rattle.hw_model.specs.KindViews.{kind_of}
use Rattle.hw_model.specs.Design.{OpResult, Entry as HwEntry, Location as HwLocation}
use Rattle.diag.specs.declared.refusal.Location.{Location}
use Rattle.ir_store.specs.declared.operation.NewResult.{NewResult}
use Rattle.ir_store.specs.declared.short_list.ShortList.{ShortList}
use Rattle.ir_store.specs.declared.operation.NewOp.{NewOp}
use Rattle.ir_store.specs.declared.operation.Parts.{Parts}
use Rattle.ir_store.specs.DictionaryViews.{entries_in}
use Rattle.ir_store.specs.ShortLists.{short_items}

-- a location in the source
abbrev pub location_of : Location → HwLocation
location_of p = record { line = p.line; col = p.col }

-- the types of a list
abbrev pub types_in : ShortList Ty → List HwType
types_in l = map type_of (short_items l)

-- a result
abbrev pub result_of : NewResult → OpResult
result_of r = record { type = type_of r.ty; again = r.again }

-- the results of a list
abbrev pub results_in : ShortList NewResult → List OpResult
results_in l = map result_of (short_items l)

-- an operation but for its operands
pub record OpParts : Type 0 where
  pub kind : Kind
  pub types : List HwType
  pub results : List OpResult
  pub named : ℕ
  pub name : Name
  pub dictionary : List HwEntry
  pub bin : Bool
  pub location : HwLocation

-- the parts that a body keeps
abbrev pub parts_of : Parts → OpParts
parts_of p = record {
  kind = kind_of p.kind;
  types = types_in p.types;
  results = results_in p.results;
  named = p.named;
  name = p.name;
  dictionary = entries_in p.dictionary;
  bin = p.bin;
  location = location_of p.location;
}

-- the parts of an operation that is to be put into a body
abbrev pub new_parts : NewOp → OpParts
new_parts o = record {
  kind = kind_of o.kind;
  types = types_in o.types;
  results = results_in o.results;
  named = o.named;
  name = o.name;
  dictionary = entries_in o.dictionary;
  bin = o.bin;
  location = location_of o.location;
}

-- an operation with one result, of the type that is written; without a name, a dictionary and the mark `bin`
abbrev pub typed_parts : Kind → HwType → HwLocation → OpParts
typed_parts kind type location = record {
  kind = kind;
  types = type ∷ [];
  results = record { type = type; again = false } ∷ [];
  named = 1;
  name = [];
  dictionary = [];
  bin = false;
  location = location;
}
