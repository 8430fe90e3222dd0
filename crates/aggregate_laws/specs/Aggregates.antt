-- The rules that lower all operations, and what each operation has to be like (CIRCT, HW dialect: `hw-lower-aggregates`).
use Rattle.std.specs.Prelude.{◌≡◌, ℕ, zero, suc, ◌^◌, ◌≤◌, Bool, true, false, cond, ◌&&◌, nat_lt, List, [], ◌∷◌, ◌++◌, map, length, Option, Some}
use Rattle.std.specs.Fmt.{decimal}
use Rattle.wiring.specs.Wiring.{In}
use Rattle.hw_model.specs.Types.{Name, HwType, FieldTypes, width, leaves}
use Rattle.hw_model.specs.Types.HwType.{int, clock, array, struct}
use Rattle.hw_model.specs.Types.FieldTypes.{no_fields, field}
use Rattle.hw_model.specs.Kinds.{Kind}
use Rattle.hw_model.specs.Kinds.Reset.{sync_reset}
use Rattle.hw_model.specs.Kinds.ArrayOp.{array_create, array_concat, array_get, array_slice, array_inject}
use Rattle.hw_model.specs.Kinds.StructOp.{struct_create, struct_extract, struct_inject, struct_explode}
use Rattle.hw_model.specs.Kinds.Kind.{mux, aggregate_constant, on_array, on_struct, bitcast, wire, instance, output, register, async_firreg}
use Rattle.hw_model.specs.Value.{nth_type}
use Rattle.hw_model.specs.Design.{Ref, Port, Op, RegisterForm, takes_enable}
use Rattle.hw_model.specs.Sound.{field_list}
use Rattle.aggregate_laws.specs.Leaves.{bare_kind, result_types}
use Rattle.aggregate_laws.specs.Rules.{Rule, Rules}
use Rattle.aggregate_laws.specs.OperationRules.{unnamed, join_rule, extract_rule, inject_rule, mux_rule, literals_types, constant_rule, stays_rule, register_rule, register_stays_rule, spread_rule}
use Rattle.aggregate_laws.specs.Choices.{get_rule, slice_rule, array_inject_rule}
use Rattle.aggregate_laws.specs.Bitcasts.{bitcast_rule}

-- ---- types

-- whether a type has no parts
abbrev pub is_scalar : HwType → Bool
is_scalar (int w) = true
is_scalar clock = true
is_scalar _ = false

-- the type of the first result; a type without bits where there is none
abbrev pub first_type : Op → HwType
first_type o = nth_type (result_types o) 0

-- how many elements an array type has, and of what type
abbrev pub array_length : HwType → ℕ
array_length (array n t) = n
array_length _ = 0

abbrev pub element_type : HwType → HwType
element_type (array n t) = t
element_type t = t

-- the least number of bits, from `k` on and at most so many more, that has a number for each of n elements
abbrev pub bits_from : ℕ → ℕ → ℕ → ℕ
bits_from zero k n = k
bits_from (suc more) k n = cond (nat_lt (2 ^ k) n) (bits_from more (suc k) n) k

-- how many bits the index of an array of n elements has
abbrev pub index_bits : ℕ → ℕ
index_bits n = bits_from n 1 n

-- ---- names

-- a name for each of k elements, from the highest down
abbrev pub element_names : (Name → List Name) → Name → ℕ → List Name
element_names inner name zero = []
element_names inner name (suc k) = inner (name ++ 95 ∷ decimal k) ++ element_names inner name k

abbrev mutual
  -- the names of the leaves of what has a name: each level adds `_` and the field or the number of the element
  pub leaf_names : Name → HwType → List Name
  leaf_names name (int w) = name ∷ []
  leaf_names name clock = name ∷ []
  leaf_names name (array n t) = element_names (λ (inner : Name). leaf_names inner t) name n
  leaf_names name (struct fs) = field_names name fs

  pub field_names : Name → FieldTypes → List Name
  field_names name no_fields = []
  field_names name (field f t fs) = leaf_names (name ++ 95 ∷ f) t ++ field_names name fs

-- the i-th of the names, or none
abbrev pub name_at : List Name → ℕ → Name
name_at [] i = []
name_at (name ∷ names) zero = name
name_at (name ∷ names) (suc i) = name_at names i

-- the names of the leaves of an operation's name; what has none gives none
abbrev pub names_from : Name → HwType → ℕ → Name
names_from [] t i = []
names_from (c ∷ name) t i = name_at (leaf_names (c ∷ name) t) i

abbrev pub own_names : Op → ℕ → Name
own_names o i = names_from o.name (first_type o) i

-- ---- rules

abbrev pub register_by : Op → RegisterForm → Rule
register_by o form = cond (is_scalar (first_type o)) (register_stays_rule o form) (register_rule o form (own_names o))

-- what an operation of a kind becomes; `named` gives an instance's kind with the names of the leaves of its ports
abbrev pub rule_of : (Op → Kind) → Op → Kind → Rule
rule_of named o mux = cond (is_scalar (first_type o)) (stays_rule o) (mux_rule o)
rule_of named o wire = cond (is_scalar (first_type o)) (stays_rule o) (join_rule o (own_names o))
rule_of named o bitcast = cond (is_scalar (first_type o) && is_scalar (nth_type o.types 0)) (stays_rule o) (bitcast_rule o (nth_type o.types 0))
rule_of named o (aggregate_constant ls) = constant_rule o ls
rule_of named o (on_array array_create) = join_rule o unnamed
rule_of named o (on_array array_concat) = join_rule o unnamed
rule_of named o (on_array array_get) = get_rule o (array_length (nth_type o.types 0)) (width (nth_type o.types 1))
rule_of named o (on_array array_slice) =
    slice_rule o (array_length (nth_type o.types 0)) (array_length (first_type o)) (length (leaves (element_type (nth_type o.types 0)))) (index_bits (array_length (nth_type o.types 0)))
rule_of named o (on_array array_inject) =
    array_inject_rule o (array_length (nth_type o.types 0)) (length (leaves (element_type (nth_type o.types 0)))) (width (nth_type o.types 1))
rule_of named o (on_struct struct_create) = join_rule o unnamed
rule_of named o (on_struct (struct_extract name)) = extract_rule o name
rule_of named o (on_struct (struct_inject name)) = inject_rule o name
rule_of named o (on_struct struct_explode) = join_rule o unnamed
rule_of named o (instance i) = spread_rule o (named o)
rule_of named o output = spread_rule o output
rule_of named o (register f r) = register_by o (record { has_enable = takes_enable f; reset = r })
rule_of named o async_firreg = register_by o (record { has_enable = false; reset = sync_reset })
rule_of named o kind = stays_rule o

-- the rules for all operations, `split` giving the leaves of ports
abbrev pub aggregate_rules : (List Port → List Port) → (Op → Kind) → Rules
aggregate_rules split named = record { ports = split; rule = λ o. rule_of named o o.kind }

-- ---- what operations are like

-- the operation has one result, and what stands for values of no aggregate type alone
pub record IsPlain (old_type : Ref → Option HwType) (o : Op) : Type 0 where
  pub type : HwType
  pub one : result_types o ≡ type ∷ []
  pub scalar : is_scalar type ≡ true
  pub operand_types : List HwType
  pub operands : map old_type o.operands ≡ map (λ (u : HwType). Some u) operand_types
  pub scalars : (u : HwType) → In u operand_types → is_scalar u ≡ true

-- the operation has one result
abbrev pub HasOne : Op → Type 0
HasOne o = (t : HwType) × (result_types o ≡ t ∷ [])

-- an operation of a kind is as its rule asks (CIRCT: operation references of the HW and Comb dialects)
abbrev pub IsRegular : (Op → Kind) → (Ref → Option HwType) → Op → Kind → Type 0
IsRegular named old_type o mux = HasOne o
IsRegular named old_type o wire = HasOne o
IsRegular named old_type o bitcast =
    (u : HwType) × (t : HwType) × (result_types o ≡ t ∷ []) × (map old_type o.operands ≡ Some u ∷ []) × (nth_type o.types 0 ≡ u) × (width u ≡ width t)
IsRegular named old_type o (aggregate_constant ls) = (t : HwType) × (result_types o ≡ t ∷ []) × (literals_types ls ≡ leaves t)
IsRegular named old_type o (on_array array_create) = HasOne o
IsRegular named old_type o (on_array array_concat) = HasOne o
IsRegular named old_type o (on_array array_get) =
    (n : ℕ) × (w : ℕ) × (t : HwType) × (result_types o ≡ t ∷ []) × (map old_type o.operands ≡ Some (array n t) ∷ Some (int w) ∷ [])
    × (nth_type o.types 0 ≡ array n t) × (nth_type o.types 1 ≡ int w) × (n ≤ 2 ^ w)
IsRegular named old_type o (on_array array_slice) =
    (n : ℕ) × (k : ℕ) × (e : HwType) × (result_types o ≡ array k e ∷ []) × (map old_type o.operands ≡ Some (array n e) ∷ Some (int (index_bits n)) ∷ [])
    × (nth_type o.types 0 ≡ array n e) × (n ≤ 2 ^ index_bits n)
IsRegular named old_type o (on_array array_inject) =
    (n : ℕ) × (w : ℕ) × (e : HwType) × (result_types o ≡ array n e ∷ []) × (map old_type o.operands ≡ Some (array n e) ∷ Some (int w) ∷ Some e ∷ [])
    × (nth_type o.types 0 ≡ array n e) × (nth_type o.types 1 ≡ int w) × (n ≤ 2 ^ w)
IsRegular named old_type o (on_struct struct_create) = HasOne o
IsRegular named old_type o (on_struct (struct_extract name)) = HasOne o
IsRegular named old_type o (on_struct (struct_inject name)) = HasOne o
IsRegular named old_type o (on_struct struct_explode) =
    (fs : FieldTypes) × (nth_type o.types 0 ≡ struct fs) × (map old_type o.operands ≡ Some (struct fs) ∷ []) × (result_types o ≡ field_list fs)
IsRegular named old_type o (instance i) = bare_kind (named o) ≡ bare_kind o.kind
IsRegular named old_type o output = Unit {0}
IsRegular named old_type o (register f r) = HasOne o
IsRegular named old_type o async_firreg = HasOne o
IsRegular named old_type o kind = IsPlain old_type o
