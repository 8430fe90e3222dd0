-- The things of a module that have names in Verilog, in the order in which they get them: the ports, then in one walk over
-- the body each register, wire, instance (its results after it) and value with a wire as it comes.
use Rattle.std.specs.Prelude.{ℕ, suc, Bool, false, cond, ◌&&◌, nat_eq, List, [], ◌∷◌, ◌++◌, map, Option, Some, None, codes, slice_get}
use Rattle.hw_model.specs.Types.{Name}
use Rattle.hw_model.specs.Kinds.{Instance}
use Rattle.hw_model.specs.Design.{Ref, Port, OpResult, Op, Module, instance_in, is_instance, is_register, is_output_op}
use Rattle.hw_model.specs.Design.Ref.{port, result, undefined}
use Rattle.name_legalise.specs.Legal.{legal}
use Rattle.verilog_expr.specs.Spilling.{is_wire_kind, hint_of, spilled}

-- a port, a result of an operation, an instance, each by position
pub data Identifier : Type 0 where
  port_identifier : ℕ → Identifier
  value_identifier : ℕ → ℕ → Identifier
  instance_identifier : ℕ → Identifier

abbrev pub same_identifier : Identifier → Identifier → Bool
same_identifier (port_identifier i) (port_identifier j) = nat_eq i j
same_identifier (value_identifier i k) (value_identifier j l) = nat_eq i j && nat_eq k l
same_identifier (instance_identifier i) (instance_identifier j) = nat_eq i j
same_identifier _ _ = false

-- what f gives of each element and its position, joined
abbrev pub each : {A B : Type 0} → (ℕ → A → List B) → ℕ → List A → List B
each f i [] = []
each f i (x ∷ xs) = f i x ++ each f (suc i) xs

-- ---- what an operation is in Verilog

pub data Emission : Type 0 where
  -- nothing by itself: the module's output, or a value that is written where it is used
  inline : Emission
  -- a wire with an assignment
  as_wire : Emission
  -- a variable with an `always` block
  as_reg : Emission
  -- an instance, with a wire for each result
  as_instance : Emission

abbrev pub emission_of : List Port → List Op → ℕ → Op → Emission
emission_of ports os i o =
    cond (is_register o) as_reg
    (cond (is_instance o) as_instance
    (cond (is_output_op o) inline
    (cond (is_wire_kind o.kind) as_wire
    (cond (spilled ports os (result i 0)) as_wire inline))))

-- ---- identifiers

abbrev pub result_identifiers : ℕ → ℕ → List OpResult → List Identifier
result_identifiers i k [] = []
result_identifiers i k (r ∷ rs) = value_identifier i k ∷ result_identifiers i (suc k) rs

abbrev pub identifiers_of : Emission → ℕ → Op → List Identifier
identifiers_of inline i o = []
identifiers_of as_wire i o = value_identifier i 0 ∷ []
identifiers_of as_reg i o = value_identifier i 0 ∷ []
identifiers_of as_instance i o = instance_identifier i ∷ result_identifiers i 0 o.results

abbrev pub op_identifiers : List Port → List Op → ℕ → Op → List Identifier
op_identifiers ports os i o = identifiers_of (emission_of ports os i o) i o

abbrev pub port_identifiers : ℕ → Port → List Identifier
port_identifiers j p = port_identifier j ∷ []

abbrev pub module_identifiers : Module → List Identifier
module_identifiers m = each port_identifiers 0 m.ports ++ each (op_identifiers m.ports m.body) 0 m.body

-- ---- the names that are wanted

abbrev pub or_name : Name → Name → Name
or_name [] other = other
or_name (b ∷ bs) other = b ∷ bs

abbrev pub name_or_nothing : Option Name → Name
name_or_nothing None = []
name_or_nothing (Some n) = n

-- `_INSTANCE_PORT`
abbrev pub result_name_hint : Instance → ℕ → Name
result_name_hint i k = codes "_" ++ (i.name ++ (codes "_" ++ name_or_nothing (slice_get i.outputs k)))

abbrev pub instance_result_name_hint : Option Instance → ℕ → Name
instance_result_name_hint None k = []
instance_result_name_hint (Some i) k = result_name_hint i k

abbrev pub op_name_hint : ℕ → Op → Name
op_name_hint k o =
    cond (is_register o) (or_name o.name (codes "_reg"))
    (cond (is_instance o) (instance_result_name_hint (instance_in o.kind) k)
    (cond (is_wire_kind o.kind) (or_name o.name (codes "_wire")) (or_name (hint_of o) (codes "_GEN"))))

abbrev pub port_name_hint : Option Port → Name
port_name_hint None = []
port_name_hint (Some p) = p.name

abbrev pub value_name_hint : ℕ → Option Op → Name
value_name_hint k None = []
value_name_hint k (Some o) = op_name_hint k o

abbrev pub instance_name : Option Instance → Name
instance_name None = []
instance_name (Some i) = i.name

abbrev pub instance_name_hint : Option Op → Name
instance_name_hint None = []
instance_name_hint (Some o) = instance_name (instance_in o.kind)

abbrev pub name_hint : Module → Identifier → Name
name_hint m (port_identifier j) = port_name_hint (slice_get m.ports j)
name_hint m (value_identifier i k) = value_name_hint k (slice_get m.body i)
name_hint m (instance_identifier i) = instance_name_hint (slice_get m.body i)

-- ---- the names

-- the names of a module's things, in the order of the things
unfoldable pub names : Module → List Name
names m = legal (map (name_hint m) (module_identifiers m))

abbrev pub name_among : List Identifier → List Name → Identifier → Option Name
name_among (k ∷ ks) (n ∷ ns) identifier = cond (same_identifier k identifier) (Some n) (name_among ks ns identifier)
name_among _ _ identifier = None

-- the name of a thing of a module
abbrev pub identifier_name : Module → Identifier → Option Name
identifier_name m identifier = name_among (module_identifiers m) (names m) identifier

abbrev pub identifier_text : Module → Identifier → Name
identifier_text m identifier = name_or_nothing (identifier_name m identifier)

abbrev pub input_name : Module → ℕ → Option Port → Option Name
input_name m j None = None
input_name m j (Some p) = cond p.is_output None (identifier_name m (port_identifier j))

-- the name of a value, where it has one
abbrev pub value_name : Module → Ref → Option Name
value_name m (port j) = input_name m j (slice_get m.ports j)
value_name m (result i k) = identifier_name m (value_identifier i k)
value_name m undefined = None
