-- The operations of a module that stand in the place of its instance, by ids (CIRCT, HW dialect: `hw-flatten-modules`).
use Rattle.std.specs.Prelude.{◌≡◌, ◌<◌, ◌^◌, ℕ, suc, false, cond, nat_eq, List, [], ◌∷◌, ◌++◌, map, drop, Option, Some, None, slice_get, length}
use Rattle.hw_model.specs.Types.{Name, HwType}
use Rattle.hw_model.specs.Kinds.Kind.{wire}
use Rattle.hw_model.specs.Design.{OpResult, Location, Port, is_output_kind}
use Rattle.ir_store.specs.declared.operation.OpId.{OpId}
use Rattle.ir_store.specs.declared.operation.NewOp.{NewOp}
use Rattle.ir_store.specs.declared.operation.Value.{Value}
use Rattle.ir_store.specs.declared.operation.Value.TheVariants.{Port as PortValue, Result, Undefined}
use Rattle.ir_store.specs.BodyOps.{BodyOp, operands_at, all_replaced, as_new}
use Rattle.ir_store.specs.Bodies.{op_id}
use Rattle.ir_store.specs.Numbered.{position_of}
use Rattle.ir_store.specs.OperationViews.{OpParts}
use Rattle.body_edits.specs.WiresOut.{value_or_undefined}
use Rattle.inline_pass.specs.Renaming.{joined_name, renamed_kind, renamed_entry}

-- ---- values

-- what an instance with these operands joins to each port of its module
abbrev pub joined_values : List Port → List Value → List Value
joined_values [] vs = []
joined_values (p ∷ ps) vs = cond p.is_output (Undefined ∷ joined_values ps vs) (value_or_undefined (slice_get vs 0) ∷ joined_values ps (drop 1 vs))

-- result k of the operation that stands for another one, where there is one
abbrev pub copy_result : Option OpId → ℕ → Value
copy_result None k = Undefined
copy_result (Some c) k = Result c k

-- a value of a module in the place of its instance: of a port what is joined to it, of an operation the result of its copy
abbrev pub moved_value : List Value → List ℕ → List OpId → Value → Value
moved_value joined ids copies (PortValue j) = value_or_undefined (slice_get joined j)
moved_value joined ids copies (Result id k) = copy_result (slice_get copies (position_of ids id.index)) k
moved_value joined ids copies Undefined = Undefined

-- ---- operations of a module

-- the operations before the first output
abbrev pub ops_before_output : List BodyOp → List BodyOp
ops_before_output [] = []
ops_before_output (o ∷ ops) = cond (is_output_kind o.parts.kind) [] (o ∷ ops_before_output ops)

-- the operands of the first output
abbrev pub output_values : List BodyOp → List Value
output_values [] = []
output_values (o ∷ ops) = cond (is_output_kind o.parts.kind) o.operands (output_values ops)

-- the parts of an operation in an instance
abbrev pub renamed_parts : Name → OpParts → OpParts
renamed_parts u p = record p { kind = renamed_kind u p.kind; name = joined_name u p.name; dictionary = map (renamed_entry u) p.dictionary }

-- an operation that has no id yet
abbrev pub without_id : NewOp → BodyOp
without_id o = as_new (op_id 0) o

-- the copy of an operation, with the operands that it has in its module
abbrev pub copy_of : Name → BodyOp → BodyOp
copy_of u o = record { id = 0; parts = renamed_parts u o.parts; operands = o.operands }

-- a wire without a name that carries a value of a module
abbrev pub wire_of : Location → HwType → Value → BodyOp
wire_of at t v = record {
  id = 0;
  parts = record {
    kind = wire;
    types = t ∷ [];
    results = record { type = t; again = false } ∷ [];
    named = 1;
    name = [];
    dictionary = [];
    bin = false;
    location = at;
  };
  operands = v ∷ [];
}

-- one for each result of an instance, for the value that the module gives to its output of that number
abbrev pub wires_of : Location → List OpResult → List Value → List BodyOp
wires_of at [] vs = []
wires_of at (x ∷ xs) vs = wire_of at x.type (value_or_undefined (slice_get vs 0)) ∷ wires_of at xs (drop 1 vs)

-- what code reads of a module: the ids of the operations before its output, their copies, and the operands of its output
pub record AreMoved (u : Name) (ops : List BodyOp) (ids : List OpId) (copies : List NewOp) (given : List Value) : Type 0 where
  pub ids_are : map (λ (i : OpId). i.index) ids ≡ map (λ (o : BodyOp). o.id) (ops_before_output ops)
  pub copies_are : map without_id copies ≡ map (copy_of u) (ops_before_output ops)
  pub given_are : given ≡ output_values ops

-- ---- edits of a body

-- operations with ids
abbrev pub with_ids : List OpId → List BodyOp → List BodyOp
with_ids [] os = []
with_ids (i ∷ ids) [] = []
with_ids (i ∷ ids) (o ∷ os) = record o { id = i.index } ∷ with_ids ids os

-- others put before the operation of an id
abbrev pub all_put_before : ℕ → List BodyOp → List BodyOp → List BodyOp
all_put_before id others [] = others
all_put_before id others (o ∷ ops) = cond (nat_eq o.id id) (others ++ o ∷ ops) (o ∷ all_put_before id others ops)

-- each operand of the operations of some ids changed
abbrev pub operands_moved : (Value → Value) → List OpId → List BodyOp → List BodyOp
operands_moved f [] ops = ops
operands_moved f (i ∷ ids) ops = operands_moved f ids (operands_at i.index (map f) ops)

-- the first results of wires in the place of the results of an operation from number n on
abbrev pub results_replaced : OpId → ℕ → List OpId → List BodyOp → List BodyOp
results_replaced op n [] ops = ops
results_replaced op n (w ∷ wires) ops = results_replaced op (suc n) wires (all_replaced (Result op n) (Result w 0) ops)

-- wires and copies of the operations of a module stand before its instance, with operands in the place of that
pub record ArePutBefore (u : Name) (ports : List Port) (own : List BodyOp) (o : BodyOp) (before after : List BodyOp) (wires : List OpId) : Type 0 where
  pub copies : List OpId
  pub few : length wires < 2 ^ 32
  pub many_wires : length wires ≡ length o.parts.results
  pub many_copies : length copies ≡ length (ops_before_output own)
  pub ops : after ≡ operands_moved (moved_value (joined_values ports o.operands) (map (λ (y : BodyOp). y.id) (ops_before_output own)) copies) copies
      (operands_moved (moved_value (joined_values ports o.operands) (map (λ (y : BodyOp). y.id) (ops_before_output own)) copies) wires
      (all_put_before o.id (with_ids copies (map (copy_of u) (ops_before_output own)))
      (all_put_before o.id (with_ids wires (wires_of o.parts.location o.parts.results (output_values own))) before)))
