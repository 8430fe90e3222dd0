-- The nodes of a body's values: first the ports, then the results of each operation in order.
use Rattle.std.specs.Prelude.{◌≡◌, ℕ, zero, suc, ◌+◌, cond, nat_lt, List, [], ◌∷◌, ◌++◌, map, length, Option, Some, None, slice_get, option_to_list, option_and_then}
use Rattle.hw_model.specs.Types.{Name}
use Rattle.hw_model.specs.Kinds.{Instance}
use Rattle.hw_model.specs.Design.{Ref, Op, instance_in, is_register, is_output_op}
use Rattle.hw_model.specs.Design.Ref.{port, result, undefined}
use Rattle.ir_store.specs.declared.operation.Value.{Value}
use Rattle.ir_store.specs.declared.operation.Value.TheVariants.{Port, Result, Undefined}
use Rattle.body_index.specs.PositionTables.{ArePositions}
use Rattle.ir_store.specs.Symbols.{symbol_position}
use Rattle.design_cycles.specs.declared.layout.Span.{Span}
use Rattle.design_cycles.specs.declared.layout.Summary.{Summary}
use Rattle.design_cycles.specs.declared.layout.Layout.{Layout}
use Rattle.graphs.specs.Graphs.{lists_of, edges}
use Rattle.design_cycles.specs.Local.{wires}

-- the lists of a summary; of a module without one there are none
abbrev pub bit_sets_of : Option Summary → List (List ℕ)
bit_sets_of None = []
bit_sets_of (Some s) = lists_of s.outputs.items

abbrev pub bit_sets_at : List Summary → Option ℕ → List (List ℕ)
bit_sets_at summaries None = []
bit_sets_at summaries (Some i) = bit_sets_of (slice_get summaries i)

-- the lists of the module of a symbol
abbrev pub bit_sets_by : List Name → List Summary → Name → List (List ℕ)
bit_sets_by symbols summaries s = bit_sets_at summaries (symbol_position s symbols)

-- how many results of an operation need others
abbrev pub size_by : (Name → List (List ℕ)) → Op → Option Instance → ℕ
size_by bit_sets o (Some i) = length (bit_sets i.symbol)
size_by bit_sets o None = cond (is_output_op o) 0 (length o.results)

abbrev pub size_in : (Name → List (List ℕ)) → Op → ℕ
size_in bit_sets o = cond (is_register o) 0 (size_by bit_sets o (instance_in o.kind))

-- the operation at a position has so many
pub record HasSize (bit_sets : Name → List (List ℕ)) (os : List Op) (j n : ℕ) : Type 0 where
  pub op_there : Op
  pub has_op : slice_get os j ≡ Some op_there
  pub size_is : n ≡ size_in bit_sets op_there

abbrev pub sizes_in : (Name → List (List ℕ)) → List Op → List ℕ
sizes_in bit_sets os = map (size_in bit_sets) os

-- the nodes of the results, from a node on
abbrev pub AreSpans : ℕ → List ℕ → List Span → Type 0
AreSpans start [] [] = Unit {0}
AreSpans start [] (s ∷ ss) = ⊥
AreSpans start (n ∷ ns) [] = ⊥
AreSpans start (n ∷ ns) (s ∷ ss) = (s.start ≡ start) × (s.size ≡ n) × AreSpans (start + n) ns ss

abbrev pub node_at : ℕ → List ℕ → ℕ → ℕ → Option ℕ
node_at start [] j k = None
node_at start (n ∷ ns) zero k = cond (nat_lt k n) (Some (start + k)) None
node_at start (n ∷ ns) (suc j) k = node_at (start + n) ns j k

-- the node of a value, where it has one
abbrev pub node_ref : ℕ → List ℕ → Ref → Option ℕ
node_ref ports sizes (port p) = cond (nat_lt p ports) (Some p) None
node_ref ports sizes (result j k) = node_at ports sizes j k
node_ref ports sizes undefined = None

-- the nodes of values, where they have any
abbrev pub nodes_in : (Ref → Option ℕ) → List Ref → List ℕ
nodes_in node [] = []
nodes_in node (r ∷ rs) = option_to_list (node r) ++ nodes_in node rs

-- the values that have nodes, in order
abbrev pub port_refs : ℕ → ℕ → List Ref
port_refs p zero = []
port_refs p (suc n) = port p ∷ port_refs (suc p) n

abbrev pub op_refs : ℕ → ℕ → ℕ → List Ref
op_refs j k zero = []
op_refs j k (suc n) = result j k ∷ op_refs j (suc k) n

abbrev pub result_refs : ℕ → List ℕ → List Ref
result_refs j [] = []
result_refs j (n ∷ ns) = op_refs j 0 n ++ result_refs (suc j) ns

abbrev pub body_refs : ℕ → List ℕ → List Ref
body_refs ports sizes = port_refs 0 ports ++ result_refs 0 sizes

-- what the outputs of a symbol's module depend on
abbrev pub table_by : (Name → List (List ℕ)) → Name → ℕ → List ℕ
table_by bit_sets s k = edges (bit_sets s) k

-- what the node of a value needs
abbrev pub node_needs : ℕ → (Name → List (List ℕ)) → List Op → Ref → List ℕ
node_needs ports bit_sets os r = nodes_in (node_ref ports (sizes_in bit_sets os)) (wires (table_by bit_sets) os r)

-- what each node of a body needs
abbrev pub body_lists : ℕ → (Name → List (List ℕ)) → List Op → List (List ℕ)
body_lists ports bit_sets os = map (node_needs ports bit_sets os) (body_refs ports (sizes_in bit_sets os))

-- what the nodes of the results of an operation need
abbrev pub lists_of_op : ℕ → (Name → List (List ℕ)) → List Op → ℕ → Option Op → List (List ℕ)
lists_of_op ports bit_sets os j None = []
lists_of_op ports bit_sets os j (Some o) = map (node_needs ports bit_sets os) (op_refs j 0 (size_in bit_sets o))

abbrev pub lists_at : ℕ → (Name → List (List ℕ)) → List Op → ℕ → List (List ℕ)
lists_at ports bit_sets os j = lists_of_op ports bit_sets os j (slice_get os j)

-- the layout is that of a body with so many ports, sizes and ids
pub record IsLayout (ports : ℕ) (sizes ids : List ℕ) (layout : Layout) : Type 0 where
  pub count : layout.ports ≡ ports
  pub spans : AreSpans ports sizes layout.spans.items
  pub positions : ArePositions ids layout.positions.items

-- ---- nodes as code tells them

abbrev pub span_node : Option Span → ℕ → Option ℕ
span_node None k = None
span_node (Some s) k = cond (nat_lt k s.size) (Some (s.start + k)) None

abbrev pub value_node : Layout → Value → Option ℕ
value_node l (Port p) = cond (nat_lt p l.ports) (Some p) None
value_node l (Result id k) = span_node (option_and_then (slice_get l.spans.items) (slice_get l.positions.items id.index)) k
value_node l Undefined = None

-- the nodes of values, where they have any
abbrev pub value_nodes : Layout → List Value → List ℕ
value_nodes l [] = []
value_nodes l (x ∷ xs) = option_to_list (value_node l x) ++ value_nodes l xs

-- the nodes of the values of these numbers
abbrev pub picked_values : Layout → List Value → List ℕ → List ℕ
picked_values l values [] = []
picked_values l values (n ∷ ns) = option_to_list (option_and_then (value_node l) (slice_get values n)) ++ picked_values l values ns
