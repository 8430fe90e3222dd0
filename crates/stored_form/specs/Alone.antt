-- An operation of a body by itself.
use Rattle.std.specs.Prelude.{ℕ, map}
use Rattle.hw_model.specs.KindViews.{kind_of}
use Rattle.hw_model.specs.Design as hw
use Rattle.ir_store.specs.declared.body.Op.{Op}
use Rattle.ir_store.specs.DictionaryViews.{entries_in}
use Rattle.ir_store.specs.OperationViews.{types_in, results_in, location_of}
use Rattle.ir_store.specs.Numbered.{ref_by}

-- an operation whose operands name operations by their ids: the canonical form asks how many there are, and not which
abbrev pub op_alone : Op → hw.Op
op_alone o = record {
  kind = kind_of o.kind.now;
  operands = map (ref_by (λ (id : ℕ). id)) o.operands.now;
  types = types_in o.types.now;
  results = results_in o.results.now;
  named = o.named;
  name = o.name.now;
  dictionary = entries_in o.dictionary.now;
  bin = o.bin;
  location = location_of o.location;
}
