-- What stands for the values of a body, in code.
use Rattle.std.specs.Prelude.{◌≡◌, ℕ, ◌+◌, Bool, true, cond, is_some, List, [], ◌∷◌, ◌++◌, map, take, drop, length, Option, Some, None, slice_get, option_and_then}
use Rattle.std.specs.Global.{Vec}
use Rattle.hw_model.specs.Types.{leaves}
use Rattle.hw_model.specs.Kinds.{Kind}
use Rattle.hw_model.specs.Design.{Ref, Port, OpResult, Op, instance_in, is_output_kind}
use Rattle.hw_model.specs.Design.Ref.{result}
use Rattle.ir_store.specs.declared.body.Body.{Body}
use Rattle.ir_store.specs.declared.body.Op.{Op as ReadOp}
use Rattle.ir_store.specs.declared.operation.Value.{Value}
use Rattle.ir_store.specs.declared.operation.Value.TheVariants.{Port as PortValue, Result, Undefined}
use Rattle.ir_store.specs.Bodies.{ops_of, ids_of, op_id, read_op}
use Rattle.ir_store.specs.Numbered.{position_of, ref_by, op_by, ops_by_position}
use Rattle.aggregate_laws.specs.Leaves.{in_row, parts_of_port}
use Rattle.aggregate_laws.specs.Rules.{Rule, Rules, count_by, leaf_ref, parts_of}
use Rattle.aggregate_laws.specs.Aggregates.{rule_of}
use Rattle.lowering_rules.specs.declared.leaf_table.LeafTable.{LeafTable}
use Rattle.lowering_rules.specs.declared.leaf_table.BlockTable.{BlockTable}
use Rattle.lowering_rules.specs.declared.arguments.Arguments.{Arguments}
use Rattle.lowering_rules.specs.Reading.{new_refs}

-- the values, where there are any
abbrev pub or_none : Option (List Ref) → List Ref
or_none None = []
or_none (Some rs) = rs

-- lists of values
abbrev pub refs_in : List (Vec Value) → List (List Ref)
refs_in all = map (λ (vs : Vec Value). new_refs vs.items) all

abbrev pub all_refs_in : List (Vec (Vec Value)) → List (List (List Ref))
all_refs_in all = map (λ (vs : Vec (Vec Value)). refs_in vs.items) all

-- the leaves of each port, and of each result of each operation
abbrev pub ports_at : LeafTable → List (List Ref)
ports_at t = refs_in t.ports.items

abbrev pub results_at : LeafTable → List (List (List Ref))
results_at t = all_refs_in t.results.items

-- what stands for a value
abbrev pub leaves_at : LeafTable → Value → List Ref
leaves_at t (PortValue j) = or_none (slice_get (ports_at t) j)
leaves_at t (Result id k) = or_none (option_and_then (λ (j : ℕ). option_and_then (λ (rs : List (List Ref)). slice_get rs k) (slice_get (results_at t) j)) (slice_get t.positions.items id.index))
leaves_at t Undefined = []

-- what stands for each operand
abbrev pub arguments_of : Arguments → List (List Ref)
arguments_of a = map (leaves_at a.table.now) a.operands.now

-- ---- what the table has

-- what stands for each port, its leaves beginning at a number
abbrev pub port_table : ℕ → List Port → List (List Ref)
port_table start [] = []
port_table start (q ∷ ps) = parts_of_port start (Some q) ∷ port_table (start + length (leaves q.type)) ps

-- what stands for each result, from the i-th leaf on
abbrev pub result_table : Rule → ℕ → Op → ℕ → List OpResult → List (List Ref)
result_table rule start o i [] = []
result_table rule start o i (x ∷ xs) = in_row (leaf_ref rule start o) i (length (leaves x.type)) ∷ result_table rule start o (i + length (leaves x.type)) xs

-- what stands for the results of each operation, from a position on
abbrev pub body_table : Rules → ℕ → List Op → List (List (List Ref))
body_table rules start [] = []
body_table rules start (o ∷ os) = result_table (rules.rule o) start o 0 o.results ∷ body_table rules (start + count_by rules o) os

-- where what each operation becomes begins
abbrev pub starts_from : Rules → ℕ → List Op → List ℕ
starts_from rules start [] = []
starts_from rules start (o ∷ os) = start ∷ starts_from rules (start + count_by rules o) os

-- so many operations after each of some positions
abbrev pub with_counts : Rules → List ℕ → List Op → List ℕ
with_counts rules [] os = []
with_counts rules (n ∷ ns) [] = []
with_counts rules (n ∷ ns) (o ∷ os) = (n + count_by rules o) ∷ with_counts rules ns os

-- where what each operation becomes ends
abbrev pub ends_from : Rules → ℕ → List Op → List ℕ
ends_from rules start os = with_counts rules (starts_from rules start os) os

-- the table of a body of a module with these ports: its ids, where what each operation becomes begins and ends, and what stands for each value
pub record IsLeafTable (rules : Rules) (ps : List Port) (b : Body) (t : LeafTable) : Type 0 where
  pub ids : t.ids.items ≡ map op_id (ids_of b)
  pub starts : t.starts.items ≡ starts_from rules 0 (ops_by_position (ops_of b))
  pub ends : t.ends.items ≡ ends_from rules 0 (ops_by_position (ops_of b))
  pub values : (v : Value) → leaves_at t v ≡ parts_of rules ps (ops_by_position (ops_of b)) (ref_by (position_of (ids_of b)) v)

-- what the table has of the operations of a body
pub record IsBlockTable (rules : Rules) (b : Body) (t : BlockTable) : Type 0 where
  pub results : all_refs_in t.results.items ≡ body_table rules 0 (ops_by_position (ops_of b))
  pub starts : t.starts.items ≡ starts_from rules 0 (ops_by_position (ops_of b))
  pub ends : t.ends.items ≡ ends_from rules 0 (ops_by_position (ops_of b))

-- what an operation becomes, beginning at a position, is added and ends at another one
pub record AddsBlock (named : Op → Kind) (o : Op) (start : ℕ) (old new : BlockTable) (end : ℕ) : Type 0 where
  pub end_is : end ≡ start + (rule_of named o o.kind).count
  pub results : all_refs_in new.results.items ≡ all_refs_in old.results.items ++ result_table (rule_of named o o.kind) start o 0 o.results ∷ []
  pub starts : new.starts.items ≡ old.starts.items ++ start ∷ []
  pub ends : new.ends.items ≡ old.ends.items ++ end ∷ []

-- ---- the leaves of one operation

-- the leaf in a position: a result of the operation at a position, or the first result of the one in that position after it
abbrev pub offset_ref : Bool → ℕ → ℕ → Ref
offset_ref one start i = cond one (result start i) (result (start + i) 0)

-- as many values for each result as it has leaves
abbrev pub divided : List OpResult → List Ref → List (List Ref)
divided [] rs = []
divided (x ∷ xs) rs = take (length (leaves x.type)) rs ∷ divided xs (drop (length (leaves x.type)) rs)

-- whether all leaves of the results of an operation of a kind are results of one operation
abbrev pub kind_is_one : Kind → Bool
kind_is_one kind = cond (is_some (instance_in kind)) true (is_output_kind kind)

-- an operation that is read of a body, by positions
abbrev pub op_seen : Body → ReadOp → Op
op_seen b o = op_by (position_of (ids_of b)) (read_op (op_id 0) o)
