-- What an operation has besides operands.
use Rattle.hw_model.specs.Design.{Op}
use Rattle.ir_store.specs.OperationViews.{OpParts}

-- an operation but for its operands
abbrev pub parts_in : Op → OpParts
parts_in o = record {
  kind = o.kind;
  types = o.types;
  results = o.results;
  named = o.named;
  name = o.name;
  dictionary = o.dictionary;
  bin = o.bin;
  location = o.location;
}
