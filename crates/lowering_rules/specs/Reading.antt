-- Operations as they are read of a body, and as they are made for a new one.
use Rattle.std.specs.Prelude.{ℕ, List, [], map}
use Rattle.hw_model.specs.KindViews.{kind_of}
use Rattle.hw_model.specs.Design.{Ref, Op}
use Rattle.ir_store.specs.declared.body.Op.{Op as ReadOp}
use Rattle.ir_store.specs.declared.operation.Value.{Value}
use Rattle.ir_store.specs.declared.operation.NewOp.{NewOp}
use Rattle.ir_store.specs.DictionaryViews.{entries_in}
use Rattle.ir_store.specs.Numbered.{ref_by}
use Rattle.ir_store.specs.OperationViews.{types_in, results_in, location_of}

-- an operation that is read, without its operands
abbrev pub plain_of : ReadOp → Op
plain_of o = record {
  kind = kind_of o.kind.now;
  operands = [];
  types = types_in o.types.now;
  results = results_in o.results.now;
  named = o.named;
  name = o.name.now;
  dictionary = entries_in o.dictionary.now;
  bin = o.bin;
  location = location_of o.location;
}

-- a value of a new body, where the ids of operations are their positions
abbrev pub new_ref : Value → Ref
new_ref v = ref_by (λ (n : ℕ). n) v

abbrev pub new_refs : List Value → List Ref
new_refs vs = map new_ref vs

-- an operation that is made for a new body
abbrev pub new_seen : NewOp → Op
new_seen o = record {
  kind = kind_of o.kind;
  operands = new_refs o.operands.items;
  types = types_in o.types;
  results = results_in o.results;
  named = o.named;
  name = o.name;
  dictionary = entries_in o.dictionary;
  bin = o.bin;
  location = location_of o.location;
}
