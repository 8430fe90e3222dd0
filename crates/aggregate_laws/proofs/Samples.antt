-- Small modules, and what they are once their aggregates are their leaves.
use Rattle.std.proofs.Common.{◌≡◌, true, [], ◌∷◌, map, pos, refl}
use Rattle.std.specs.Prelude.{codes}
use Rattle.std.specs.List.{flat_map}
use Rattle.hw_model.specs.Types.{HwType}
use Rattle.hw_model.specs.Types.HwType.{int, clock, array, struct}
use Rattle.hw_model.specs.Types.FieldTypes.{no_fields, field}
use Rattle.hw_model.specs.Kinds.{Kind}
use Rattle.hw_model.specs.Kinds.Predicate.{eq}
use Rattle.hw_model.specs.Kinds.Reset.{sync_reset}
use Rattle.hw_model.specs.Kinds.Literal.{leaf}
use Rattle.hw_model.specs.Kinds.Literals.{no_literals, literal}
use Rattle.hw_model.specs.Kinds.ArrayOp.{array_get, array_slice, array_inject}
use Rattle.hw_model.specs.Kinds.StructOp.{struct_create, struct_extract}
use Rattle.hw_model.specs.Kinds.RegisterOp.{compreg_ce}
use Rattle.hw_model.specs.Kinds.Kind.{icmp, extract, concat, bitcast, mux, constant, aggregate_constant, on_array, on_struct, wire, output, register}
use Rattle.hw_model.specs.Value.{nth_type}
use Rattle.hw_model.specs.Design.{Port, Op, Module}
use Rattle.hw_model.specs.Design.Ref.{port, result}
use Rattle.hw_model.proofs.Samples.{operation, in_port, out_port, module_of}
use Rattle.aggregate_laws.specs.Leaves.{leaf_ports}
use Rattle.aggregate_laws.specs.Rules.{Rule, Rules, lowered_module}
use Rattle.aggregate_laws.specs.OperationRules.{unnamed, join_rule, extract_rule, mux_rule, constant_rule, stays_rule, register_rule, spread_rule}
use Rattle.aggregate_laws.specs.Bitcasts.{bitcast_rule}
use Rattle.aggregate_laws.specs.Choices.{get_rule, slice_rule, array_inject_rule}

-- rules for the operations of these modules
abbrev sample_rule : Op → Kind → Rule
sample_rule o (on_array array_get) = get_rule o 3 2
sample_rule o (on_array array_slice) = slice_rule o 2 2 1 1
sample_rule o (on_array array_inject) = array_inject_rule o 2 1 1
sample_rule o (on_struct struct_create) = join_rule o unnamed
sample_rule o (on_struct (struct_extract name)) = extract_rule o name
sample_rule o (aggregate_constant ls) = constant_rule o ls
sample_rule o mux = mux_rule o
sample_rule o bitcast = bitcast_rule o (nth_type o.types 0)
sample_rule o (register f r) = register_rule o (record { has_enable = true; reset = sync_reset }) unnamed
sample_rule o output = spread_rule o output
sample_rule o kind = stays_rule o

abbrev sample_rules : Rules
sample_rules = record { ports = flat_map leaf_ports; rule = λ o. sample_rule o o.kind }

-- ---- an element of an array

abbrev pick : Module
pick =
    module_of (codes "pick") (in_port (codes "a") (array 3 (int 8)) ∷ in_port (codes "i") (int 2) ∷ out_port (codes "c") (int 8) ∷ [])
    (operation (on_array array_get) (port 0 ∷ port 1 ∷ []) (array 3 (int 8) ∷ int 2 ∷ []) (int 8 ∷ []) ∷ operation output (result 0 0 ∷ []) (int 8 ∷ []) [] ∷ [])

-- the highest element is the first port, and the lowest is chosen last
picked_ports : map (λ (q : Port). q.type) (lowered_module sample_rules pick).ports ≡ int 8 ∷ int 8 ∷ int 8 ∷ int 2 ∷ int 8 ∷ []
picked_ports = refl

picked : (lowered_module sample_rules pick).body
    ≡ operation (constant (pos 0)) [] (int 2 ∷ []) (int 2 ∷ [])
    ∷ operation (icmp eq) (port 3 ∷ result 0 0 ∷ []) (int 2 ∷ []) (int 1 ∷ [])
    ∷ operation (constant (pos 1)) [] (int 2 ∷ []) (int 2 ∷ [])
    ∷ operation (icmp eq) (port 3 ∷ result 2 0 ∷ []) (int 2 ∷ []) (int 1 ∷ [])
    ∷ operation (constant (pos 2)) [] (int 2 ∷ []) (int 2 ∷ [])
    ∷ operation (icmp eq) (port 3 ∷ result 4 0 ∷ []) (int 2 ∷ []) (int 1 ∷ [])
    ∷ operation (constant (pos 0)) [] (int 8 ∷ []) (int 8 ∷ [])
    ∷ operation mux (result 5 0 ∷ port 0 ∷ result 6 0 ∷ []) (int 8 ∷ []) (int 8 ∷ [])
    ∷ operation mux (result 3 0 ∷ port 1 ∷ result 7 0 ∷ []) (int 8 ∷ []) (int 8 ∷ [])
    ∷ operation mux (result 1 0 ∷ port 2 ∷ result 8 0 ∷ []) (int 8 ∷ []) (int 8 ∷ [])
    ∷ operation output (result 9 0 ∷ []) (int 8 ∷ []) [] ∷ []
picked = refl

-- ---- a register of a struct, with enable and reset, of which a field is read before it is made

abbrev pair : HwType
pair = struct (field (codes "p") (int 4) (field (codes "q") (int 2) no_fields))

abbrev held_pair : Module
held_pair =
    module_of (codes "held")
    (in_port (codes "clk") clock ∷ in_port (codes "en") (int 1) ∷ in_port (codes "rst") (int 1) ∷ in_port (codes "v") pair ∷ in_port (codes "p") (int 4) ∷ out_port (codes "o") (int 2) ∷ [])
    (operation (on_struct (struct_extract (codes "q"))) (result 2 0 ∷ []) (pair ∷ []) (int 2 ∷ [])
    ∷ operation (on_struct struct_create) (port 4 ∷ result 0 0 ∷ []) (pair ∷ []) (pair ∷ [])
    ∷ operation (register compreg_ce sync_reset) (result 1 0 ∷ port 0 ∷ port 1 ∷ port 2 ∷ port 3 ∷ []) (pair ∷ []) (pair ∷ [])
    ∷ operation output (result 0 0 ∷ []) (int 2 ∷ []) [] ∷ [])

held_leaves : (lowered_module sample_rules held_pair).body
    ≡ operation wire (result 4 0 ∷ []) (int 2 ∷ []) (int 2 ∷ [])
    ∷ operation wire (port 5 ∷ []) (int 4 ∷ []) (int 4 ∷ [])
    ∷ operation wire (result 0 0 ∷ []) (int 2 ∷ []) (int 2 ∷ [])
    ∷ operation (register compreg_ce sync_reset) (result 1 0 ∷ port 0 ∷ port 1 ∷ port 2 ∷ port 3 ∷ []) (int 4 ∷ []) (int 4 ∷ [])
    ∷ operation (register compreg_ce sync_reset) (result 2 0 ∷ port 0 ∷ port 1 ∷ port 2 ∷ port 4 ∷ []) (int 2 ∷ []) (int 2 ∷ [])
    ∷ operation output (result 0 0 ∷ []) (int 2 ∷ []) [] ∷ []
held_leaves = refl

-- ---- a constant, a part of an array, and an array with another element

abbrev shifted : Module
shifted =
    module_of (codes "shifted") (in_port (codes "i") (int 1) ∷ in_port (codes "v") (int 8) ∷ out_port (codes "o") (array 2 (int 8)) ∷ [])
    (operation (aggregate_constant (literal (leaf (pos 7) (int 8)) (literal (leaf (pos 5) (int 8)) no_literals))) [] (array 2 (int 8) ∷ []) (array 2 (int 8) ∷ [])
    ∷ operation (on_array array_slice) (result 0 0 ∷ port 0 ∷ []) (array 2 (int 8) ∷ array 2 (int 8) ∷ []) (array 2 (int 8) ∷ [])
    ∷ operation (on_array array_inject) (result 1 0 ∷ port 0 ∷ port 1 ∷ []) (array 2 (int 8) ∷ int 1 ∷ []) (array 2 (int 8) ∷ [])
    ∷ operation output (result 2 0 ∷ []) (array 2 (int 8) ∷ []) [] ∷ [])

-- for element 1 only element 1 is there, where the index is 0
shifted_leaves : (lowered_module sample_rules shifted).body
    ≡ operation (constant (pos 7)) [] (int 8 ∷ []) (int 8 ∷ [])
    ∷ operation (constant (pos 5)) [] (int 8 ∷ []) (int 8 ∷ [])
    ∷ operation (constant (pos 0)) [] (int 1 ∷ []) (int 1 ∷ [])
    ∷ operation (icmp eq) (port 0 ∷ result 2 0 ∷ []) (int 1 ∷ []) (int 1 ∷ [])
    ∷ operation (constant (pos 1)) [] (int 1 ∷ []) (int 1 ∷ [])
    ∷ operation (icmp eq) (port 0 ∷ result 4 0 ∷ []) (int 1 ∷ []) (int 1 ∷ [])
    ∷ operation (constant (pos 0)) [] (int 8 ∷ []) (int 8 ∷ [])
    ∷ operation mux (result 3 0 ∷ result 0 0 ∷ result 6 0 ∷ []) (int 8 ∷ []) (int 8 ∷ [])
    ∷ operation (constant (pos 0)) [] (int 8 ∷ []) (int 8 ∷ [])
    ∷ operation mux (result 5 0 ∷ result 0 0 ∷ result 8 0 ∷ []) (int 8 ∷ []) (int 8 ∷ [])
    ∷ operation mux (result 3 0 ∷ result 1 0 ∷ result 9 0 ∷ []) (int 8 ∷ []) (int 8 ∷ [])
    ∷ operation (constant (pos 0)) [] (int 1 ∷ []) (int 1 ∷ [])
    ∷ operation (icmp eq) (port 0 ∷ result 11 0 ∷ []) (int 1 ∷ []) (int 1 ∷ [])
    ∷ operation (constant (pos 1)) [] (int 1 ∷ []) (int 1 ∷ [])
    ∷ operation (icmp eq) (port 0 ∷ result 13 0 ∷ []) (int 1 ∷ []) (int 1 ∷ [])
    ∷ operation mux (result 14 0 ∷ port 1 ∷ result 7 0 ∷ []) (int 8 ∷ []) (int 8 ∷ [])
    ∷ operation mux (result 12 0 ∷ port 1 ∷ result 10 0 ∷ []) (int 8 ∷ []) (int 8 ∷ [])
    ∷ operation output (result 15 0 ∷ result 16 0 ∷ []) (int 8 ∷ int 8 ∷ []) [] ∷ []
shifted_leaves = refl

-- ---- the same bits as another type

abbrev cast_pair : Module
cast_pair =
    module_of (codes "cast") (in_port (codes "x") (int 16) ∷ in_port (codes "s") pair ∷ out_port (codes "h") (array 2 (int 8)) ∷ out_port (codes "t") (array 3 (int 2)) ∷ out_port (codes "y") (int 6) ∷ [])
    (operation bitcast (port 0 ∷ []) (int 16 ∷ array 2 (int 8) ∷ []) (array 2 (int 8) ∷ [])
    ∷ operation bitcast (port 1 ∷ []) (pair ∷ array 3 (int 2) ∷ []) (array 3 (int 2) ∷ [])
    ∷ operation bitcast (result 1 0 ∷ []) (array 3 (int 2) ∷ int 6 ∷ []) (int 6 ∷ [])
    ∷ operation output (result 0 0 ∷ result 1 0 ∷ result 2 0 ∷ []) (array 2 (int 8) ∷ array 3 (int 2) ∷ int 6 ∷ []) [] ∷ [])

-- a leaf of one piece is an extract, also of a whole leaf
cast_leaves : (lowered_module sample_rules cast_pair).body
    ≡ operation (extract 8) (port 0 ∷ []) (int 16 ∷ int 8 ∷ []) (int 8 ∷ [])
    ∷ operation (extract 0) (port 0 ∷ []) (int 16 ∷ int 8 ∷ []) (int 8 ∷ [])
    ∷ operation (extract 2) (port 1 ∷ []) (int 4 ∷ int 2 ∷ []) (int 2 ∷ [])
    ∷ operation (extract 0) (port 1 ∷ []) (int 4 ∷ int 2 ∷ []) (int 2 ∷ [])
    ∷ operation (extract 0) (port 2 ∷ []) (int 2 ∷ int 2 ∷ []) (int 2 ∷ [])
    ∷ operation (extract 0) (result 2 0 ∷ []) (int 2 ∷ int 2 ∷ []) (int 2 ∷ [])
    ∷ operation (extract 0) (result 3 0 ∷ []) (int 2 ∷ int 2 ∷ []) (int 2 ∷ [])
    ∷ operation (extract 0) (result 4 0 ∷ []) (int 2 ∷ int 2 ∷ []) (int 2 ∷ [])
    ∷ operation concat (result 5 0 ∷ result 6 0 ∷ result 7 0 ∷ []) (int 2 ∷ int 2 ∷ int 2 ∷ []) (int 6 ∷ [])
    ∷ operation output (result 0 0 ∷ result 1 0 ∷ result 2 0 ∷ result 3 0 ∷ result 4 0 ∷ result 8 0 ∷ []) (int 8 ∷ int 8 ∷ int 2 ∷ int 2 ∷ int 2 ∷ int 6 ∷ []) [] ∷ []
cast_leaves = refl
