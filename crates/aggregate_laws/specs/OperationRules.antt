-- What each operation becomes where aggregate values are their leaves (CIRCT, HW dialect: `hw-lower-aggregates`).
use Rattle.std.specs.Prelude.{ℕ, zero, suc, false, cond, List, [], ◌∷◌, ◌++◌, ℤ, pos, map, take, drop, length}
use Rattle.std.specs.List.{flat_map}
use Rattle.hw_model.specs.Types.{Name, HwType, FieldTypes, leaves}
use Rattle.hw_model.specs.Types.FieldTypes.{no_fields, field}
use Rattle.hw_model.specs.Kinds.{Kind, Literal, Literals}
use Rattle.hw_model.specs.Kinds.Literal.{leaf, parts}
use Rattle.hw_model.specs.Kinds.Literals.{no_literals, literal}
use Rattle.hw_model.specs.Kinds.Kind.{mux, constant, wire}
use Rattle.hw_model.specs.Value.{fields, nth_type}
use Rattle.hw_model.specs.Design.{Ref, Op, RegisterForm, result_type, same_name}
use Rattle.aggregate_laws.specs.Leaves.{part, bare_result, result_types, leaf_operands, leaves_of}
use Rattle.aggregate_laws.specs.Rules.{Rule}

-- ---- operations that are made

-- an operation of a kind with one result, made for the operation o
abbrev pub made_op : Op → Kind → List Ref → List HwType → Name → HwType → Op
made_op o kind rs ts name t = record {
  kind = kind;
  operands = rs;
  types = ts;
  results = bare_result t ∷ [];
  named = 1;
  name = name;
  dictionary = [];
  bin = false;
  location = o.location;
}

-- the leaves of all results
abbrev pub all_leaves : Op → List HwType
all_leaves o = flat_map leaves (result_types o)

-- what stands for all operands
abbrev pub joined_parts : List (List Ref) → List Ref
joined_parts args = flat_map (λ (rs : List Ref). rs) args

-- what stands for the n-th operand
abbrev pub argument : ℕ → List (List Ref) → List Ref
argument n [] = []
argument zero (rs ∷ args) = rs
argument (suc n) (rs ∷ args) = argument n args

-- an operation for each of the types, from a number on, `each` giving it from its number and its type
abbrev pub for_each : (ℕ → HwType → Op) → ℕ → List HwType → List Op
for_each each i [] = []
for_each each i (t ∷ ts) = each i t ∷ for_each each (suc i) ts

-- an operation for each leaf, from what stands for the operands, in the order of the leaves
abbrev pub leafwise : Op → (List (List Ref) → ℕ → HwType → Op) → Rule
leafwise o each = record {
  count = length (all_leaves o);
  position = λ i. i;
  made = λ args start. for_each (each args) 0 (all_leaves o);
}

-- ---- operations that only join and take apart: a wire for each leaf, which may have a name

-- a wire for each leaf, from what `chosen` says
abbrev pub wires : Op → (ℕ → Name) → (List (List Ref) → List Ref) → Rule
wires o names chosen = leafwise o (λ args i t. made_op o wire (part (chosen args) i ∷ []) (t ∷ []) (names i) t)

-- no names
abbrev pub unnamed : ℕ → Name
unnamed i = []

-- of what stands for a struct, what stands for the field of that name
abbrev pub field_parts : FieldTypes → Name → List Ref → List Ref
field_parts no_fields name rs = []
field_parts (field f t fs) name rs = cond (same_name f name) (take (length (leaves t)) rs) (field_parts fs name (drop (length (leaves t)) rs))

-- the same with vs in its place
abbrev pub with_field_parts : FieldTypes → Name → List Ref → List Ref → List Ref
with_field_parts no_fields name rs vs = rs
with_field_parts (field f t fs) name rs vs =
    cond (same_name f name) (vs ++ drop (length (leaves t)) rs)
    (take (length (leaves t)) rs ++ with_field_parts fs name (drop (length (leaves t)) rs) vs)

-- `hw.wire`, `hw.struct_create`, `hw.array_create`, `hw.array_concat`, `hw.struct_explode`: the operands' leaves in order
abbrev pub join_rule : Op → (ℕ → Name) → Rule
join_rule o names = wires o names joined_parts

-- `hw.struct_extract`
abbrev pub extract_rule : Op → Name → Rule
extract_rule o name = wires o unnamed (λ args. field_parts (fields (nth_type o.types 0)) name (argument 0 args))

-- `hw.struct_inject`
abbrev pub inject_rule : Op → Name → Rule
inject_rule o name = wires o unnamed (λ args. with_field_parts (fields (nth_type o.types 0)) name (argument 0 args) (argument 1 args))

-- ---- `comb.mux` and `hw.aggregate_constant`: one for each leaf

abbrev pub mux_rule : Op → Rule
mux_rule o = leafwise o (λ args i t. made_op o mux (part (argument 0 args) 0 ∷ part (argument 1 args) i ∷ part (argument 2 args) i ∷ []) (t ∷ []) [] t)

-- the numbers of a constant's leaves
abbrev mutual
  pub literal_numbers : Literal → List ℤ
  literal_numbers (leaf z t) = z ∷ []
  literal_numbers (parts ls) = literals_numbers ls

  pub literals_numbers : Literals → List ℤ
  literals_numbers no_literals = []
  literals_numbers (literal l ls) = literal_numbers l ++ literals_numbers ls

abbrev mutual
  -- the types of a constant's leaves
  pub literal_types : Literal → List HwType
  literal_types (leaf z t) = t ∷ []
  literal_types (parts ls) = literals_types ls

  pub literals_types : Literals → List HwType
  literals_types no_literals = []
  literals_types (literal l ls) = literal_types l ++ literals_types ls

-- the i-th of the numbers, or 0
abbrev pub number_at : List ℤ → ℕ → ℤ
number_at [] i = pos 0
number_at (z ∷ zs) zero = z
number_at (z ∷ zs) (suc i) = number_at zs i

abbrev pub constant_rule : Op → Literals → Rule
constant_rule o ls = leafwise o (λ args i t. made_op o (constant (number_at (literals_numbers ls) i)) [] (t ∷ []) [] t)

-- ---- an operation without aggregates stays, with what now stands for its operands

abbrev pub stays_rule : Op → Rule
stays_rule o = record { count = 1; position = λ i. 0; made = λ args start. record o { operands = joined_parts args } ∷ [] }

-- ---- registers, instances and outputs

-- a register of a form: one for each leaf, which may have a name
abbrev pub register_rule : Op → RegisterForm → (ℕ → Name) → Rule
register_rule o form names = record {
  count = length (leaves_of (result_type o 0));
  position = λ i. i;
  made = λ args start. for_each (λ i t. made_op o o.kind (leaf_operands form.has_enable form.reset args i) (t ∷ []) (names i) t) 0 (leaves_of (result_type o 0));
}

-- a register of one leaf stays, with what now stands for its operands
abbrev pub register_stays_rule : Op → RegisterForm → Rule
register_stays_rule o form = record {
  count = 1;
  position = λ i. i;
  made = λ args start. record o { operands = leaf_operands form.has_enable form.reset args 0 } ∷ [];
}

-- an instance or an output with the leaves of its operands and results; the kind has the names of these
abbrev pub spread_rule : Op → Kind → Rule
spread_rule o kind = record {
  count = 1;
  position = λ i. i;
  made = λ args start.
      record o { kind = kind; operands = joined_parts args; types = flat_map leaves o.types; results = map bare_result (all_leaves o); named = length (all_leaves o) } ∷ [];
}
