-- What the code's tables of names stand for.
use Rattle.std.specs.Prelude.{ℕ, zero, suc, ◌+◌, ◌<◌, ◌^◌, List, [], ◌∷◌, map, Option, Some, None, option_map, slice_get}
use Rattle.std.specs.Option.{option_flatten}
use Rattle.std.specs.Borrow.{Bor}
use Rattle.std.specs.Map.{lookup}
use Rattle.hw_model.specs.Types.{Name}
use Rattle.hw_model.specs.KindViews.{kind_of}
use Rattle.hw_model.specs.Design.{Op, same_name}
use Rattle.ir_store.specs.declared.operation.NewOp.{NewOp}
use Rattle.ir_store.specs.DictionaryViews.{entries_in}
use Rattle.ir_store.specs.OperationViews.{types_in, results_in, location_of}
use Rattle.ir_store.specs.Numbered.{ref_by}
use Rattle.mlir_operations.specs.OperandText.{named_count}
use Rattle.mlir_operations.specs.Views.{names_of}
use Rattle.mlir_operations.specs.declared.syntax.OperationText.{OperationText}
use Rattle.mlir_reader.specs.PlainNumbers.{number_of}
use Rattle.mlir_reader.specs.Resolving.{Defined, Definition, Meanings, known_or}
use Rattle.mlir_reader.specs.Resolving.Defined.{is_port, are_results}
use Rattle.mlir_reader.specs.declared.names.Defined as code
use Rattle.mlir_reader.specs.declared.names.Defined.TheVariants.{Port, Result, Pack}
use Rattle.mlir_reader.specs.declared.names.Names.{Names}

-- what a name stands for
abbrev pub defined_of : code.Defined → Defined
defined_of (Port j) = is_port j
defined_of (Result i k) = are_results i k 1
defined_of (Pack i count) = are_results i 0 count

-- a definition of a name
abbrev pub definition : Name → code.Defined → Definition
definition name d = record { name = name; defined = defined_of d }

-- what a table of names holds for each
abbrev pub table_meanings : List (Bor Name × code.Defined) → Meanings
table_meanings entries name = option_map defined_of (lookup (λ k. same_name name k.now) entries)

-- what stands at the location of a number
abbrev pub meaning_at : List (Option code.Defined) → ℕ → Option code.Defined
meaning_at table n = option_flatten (slice_get table n)

-- what a plain number stands for: what its location holds, or else what the table of those far above holds for its name
abbrev pub number_meaning : Names → Name → ℕ → Option Defined
number_meaning t name n = known_or (option_map defined_of (meaning_at t.numbered.items n)) (table_meanings t.far.entries name)

-- what a name stands for that is a plain number, or none
abbrev pub meaning_by : Names → Name → Option ℕ → Option Defined
meaning_by t name (Some n) = number_meaning t name n
meaning_by t name None = table_meanings t.named.entries name

-- what each name of a table stands for
unfoldable pub meanings_of : Names → Meanings
meanings_of t name = meaning_by t name (number_of name)

-- fewer than 2^32 results are named
abbrev pub HasFewNames : OperationText → Type 0
HasFewNames o = named_count (names_of o.results) < 2 ^ 32

-- an operation that is to be put into a body in which ids are positions
abbrev pub op_of : NewOp → Op
op_of o = record {
  kind = kind_of o.kind;
  operands = map (ref_by (λ i. i)) o.operands.items;
  types = types_in o.types;
  results = results_in o.results;
  named = o.named;
  name = o.name;
  dictionary = entries_in o.dictionary;
  bin = o.bin;
  location = location_of o.location;
}

-- the numbers below a bound, in order
abbrev pub numbers_from : ℕ → ℕ → List ℕ
numbers_from first zero = []
numbers_from first (suc n) = first ∷ numbers_from (first + 1) n

abbrev pub numbers_below : ℕ → List ℕ
numbers_below n = numbers_from 0 n
