-- No module of a lowered design without the wires of joins is heavier than it was.
use Rattle.std.proofs.Common.{◌≡◌, ℕ, zero, suc, ◌+◌, ◌-◌, ◌*◌, ◌%◌, ◌≤◌, Bool, true, false, cond, ◌&&◌, List, [], ◌∷◌, ◌++◌, map, length, flat_map, Option, Some, None, slice_get, refl, sym, ap, ap₂}
use Rattle.std.proofs.Common.{subst, ◌∙◌, inl, inr, arith, length-append, append_assoc, mul-suc, suc-mul, mul-one, one-mul, mul_assoc, mul-le-mul_left, option_map}
use Rattle.std.proofs.lemmas.List.{length-map, map-append}
use Rattle.wiring.specs.Wiring.{In}
use Rattle.wiring.proofs.Members.{position_of_In, from_In-flat_map}
use Rattle.hw_model.specs.Types.{Name, HwType, leaves}
use Rattle.hw_model.specs.Types.HwType.{array}
use Rattle.hw_model.specs.Kinds.{Kind, Instance, Literal, Literals, Reset, RegisterOp}
use Rattle.hw_model.specs.Kinds.Literal.{leaf, parts}
use Rattle.hw_model.specs.Kinds.Literals.{no_literals, literal}
use Rattle.hw_model.specs.Kinds.Reset.{sync_reset}
use Rattle.hw_model.specs.Kinds.RegisterOp.{firreg}
use Rattle.hw_model.specs.Kinds.ArrayOp.{array_create, array_concat, array_get, array_slice, array_inject}
use Rattle.hw_model.specs.Kinds.Kind.{mux, constant, aggregate_constant, on_array, on_struct, bitcast, wire, instance, output, register, async_firreg}
use Rattle.hw_model.specs.Value.{nth_type}
use Rattle.hw_model.specs.Design.{Ref, Port, Op, Module, Design, find_module, same_name, takes_enable, result_type}
use Rattle.hw_model.specs.Weight.{leaf_count, literal_leaves, literals_leaves, element_count, element_leaves, register_weight, reset_weight, kind_weight, body_weight, weight_of, weight}
use Rattle.hw_model.proofs.Weights.{weight_not_raised}
use Rattle.edit_laws.specs.Edit.{retarget}
use Rattle.edit_laws.proofs.Weights.{op_weight, weight-retarget}
use Rattle.type_inference.specs.ResultTypes.{first_type as first_written, second_type as second_written, result_type as type_of_result, result_types as settled_types}
use Rattle.op_checks.specs.TypeLists.{known_types}
use Rattle.port_checks.proofs.Least.{found_module}
use Rattle.acceptance_laws.specs.Keeps.{IsFit}
use Rattle.inline_laws.specs.Unwire.{unwire}
use Rattle.inline_laws.proofs.WithoutWires.{Others, others_stay}
use Rattle.aggregate_laws.specs.Leaves.{bare_port, leaf_port, leaf_ports, part, leaf_operands, leaves_of, result_types}
use Rattle.aggregate_laws.specs.Rules.{Rule, Rules, count_by, blocks}
use Rattle.aggregate_laws.specs.OperationRules.{made_op, for_each, all_leaves, joined_parts, argument, literal_types, literals_types, literals_numbers, number_at, mux_rule, constant_rule, stays_rule}
use Rattle.aggregate_laws.specs.OperationRules.{register_rule, register_stays_rule, spread_rule, join_rule}
use Rattle.aggregate_laws.specs.Choices.{tests, test_at, choices, leaf_choices, choice_rule, element_leaf, element_of, get_rule, slice_rule, array_inject_rule}
use Rattle.aggregate_laws.specs.Bitcasts.{bitcast_rule}
use Rattle.aggregate_laws.specs.Aggregates.{is_scalar, first_type, array_length, own_names, rule_of, aggregate_rules, IsPlain, IsRegular}
use Rattle.aggregate_laws.proofs.Gets.{copies_length}
use Rattle.aggregate_laws.proofs.Muxes.{all_of_one}
use Rattle.aggregate_laws.proofs.Blocks.{block_by}
use Rattle.aggregate_acceptance.specs.Names.{NamesPorts, NamesInstances}
use Rattle.aggregate_acceptance.specs.Joins.{only_joins, without_joins, joined_module, joined_design}
use Rattle.aggregate_laws.proofs.Scalars.{leaf_scalar, scalar_leaves}
use Rattle.aggregate_acceptance.proofs.PieceWeights.{weight_append, cast_weight}
use Rattle.aggregate_acceptance.proofs.SpreadRules.{scalars_typed}
use Rattle.aggregate_acceptance.proofs.LoweredModules.{Lowering, rules_of, parts_in, old_type, new_type, regular_at, splits_at, parts_typed_at}
use Rattle.aggregate_acceptance.proofs.LoweredBlocks.{settled, joined, same_leaves, named_leaves}

-- ---- leaves of types

leaf_is_one : (t u : HwType) → In u (leaves t) → length (leaves u) ≡ 1
leaf_is_one t u here = ap length (scalar_leaves u (leaf_scalar t u here))

count_of_ones : (us : List HwType) → ((u : HwType) → In u us → length (leaves u) ≡ 1) → leaf_count us ≡ length us
count_of_ones [] one = refl
count_of_ones (u ∷ us) one =
    let first : length (leaves u) ≡ 1 = one u (inl refl) in
    let rest : leaf_count us ≡ length us = count_of_ones us (λ v here. one v (inr here)) in
    omega arith

flat_length : (ts : List HwType) → length (flat_map leaves ts) ≡ leaf_count ts
flat_length [] = refl
flat_length (t ∷ ts) = length-append (leaves t) (flat_map leaves ts) ∙ ap (λ n. length (leaves t) + n) (flat_length ts)

-- the leaves of leaves are as many
flat_count : (ts : List HwType) → leaf_count (flat_map leaves ts) ≡ leaf_count ts
flat_count ts = count_of_ones (flat_map leaves ts) (λ u here. let from = from_In-flat_map leaves u ts here in leaf_is_one from.0 u from.2) ∙ flat_length ts

first_few : (ts : List HwType) (t : HwType) → first_written ts ≡ Some t → length (leaves t) ≤ leaf_count ts
first_few [] t is = cc
first_few (u ∷ ts) t is =
    let same : u ≡ t = cc in
    let size : length (leaves u) ≡ length (leaves t) = ap (λ v. length (leaves v)) same in
    omega arith

two_few : (ts : List HwType) (t : HwType) → second_written ts ≡ Some t → length (leaves (nth_type ts 0)) + length (leaves t) ≤ leaf_count ts
two_few [] t is = cc
two_few (u ∷ []) t is = cc
two_few (u ∷ v ∷ ts) t is =
    let same : v ≡ t = cc in
    let size : length (leaves v) ≡ length (leaves t) = ap (λ w. length (leaves w)) same in
    omega arith

nth_second : (ts : List HwType) (t : HwType) → second_written ts ≡ Some t → nth_type ts 1 ≡ t
nth_second [] t is = cc
nth_second (u ∷ []) t is = cc
nth_second (u ∷ v ∷ ts) t is = cc

mutual
  literal_length : (l : Literal) → length (literal_types l) ≡ literal_leaves l
  literal_length (leaf z t) = refl
  literal_length (parts ls) = literals_length ls

  literals_length : (ls : Literals) → length (literals_types ls) ≡ literals_leaves ls
  literals_length no_literals = refl
  literals_length (literal l ls) = length-append (literal_types l) (literals_types ls) ∙ ap₂ (λ a b. a + b) (literal_length l) (literals_length ls)

-- ---- ports

abbrev port_types : List Port → List HwType
port_types ps = map (λ (p : Port). p.type) ps

port_types_bare : (ps : List Port) → port_types (map bare_port ps) ≡ port_types ps
port_types_bare [] = refl
port_types_bare (p ∷ ps) = ap (λ ts. p.type ∷ ts) (port_types_bare ps)

leaf_port_types : (way : Bool) (ts : List HwType) → port_types (map (leaf_port way) ts) ≡ ts
leaf_port_types way [] = refl
leaf_port_types way (t ∷ ts) = ap (λ us. t ∷ us) (leaf_port_types way ts)

leaf_ports_types : (ps : List Port) → port_types (flat_map leaf_ports ps) ≡ flat_map leaves (port_types ps)
leaf_ports_types [] = refl
leaf_ports_types (p ∷ ps) =
    map-append (λ (q : Port). q.type) (leaf_ports p) (flat_map leaf_ports ps)
    ∙ ap₂ (λ xs ys. xs ++ ys) (leaf_port_types p.is_output (leaves p.type)) (leaf_ports_types ps)

split_count : (ps qs : List Port) → map bare_port qs ≡ flat_map leaf_ports ps → leaf_count (port_types qs) ≡ leaf_count (port_types ps)
split_count ps qs leaves_are =
    ap leaf_count (sym (port_types_bare qs) ∙ ap port_types leaves_are ∙ leaf_ports_types ps) ∙ flat_count (port_types ps)

-- ---- what is made

module _ (inner : Name → ℕ) where
  -- at most so much for each of the types
  for_each_weight : (each : ℕ → HwType → Op) (c i : ℕ) (us : List HwType) → ((j : ℕ) (u : HwType) → In u us → op_weight inner (each j u) ≤ c)
      → body_weight inner (for_each each i us) ≤ c * length us
  for_each_weight each c i [] light = omega arith
  for_each_weight each c i (u ∷ us) light =
      linear (op_weight inner (each i u)) (body_weight inner (for_each each (suc i) us)) c (c * length us) (c * suc (length us)) (light i u (inl refl))
      (for_each_weight each c (suc i) us (λ j v here. light j v (inr here))) (mul-suc c (length us))
    where
      linear : (a b n p q : ℕ) → a ≤ n → b ≤ p → q ≡ p + n → a + b ≤ q
      linear a b n p q x y z = omega arith

  tests_weight : (o : Op) (w : ℕ) (index : Ref) (start from n : ℕ) → body_weight inner (tests o w index start from n) ≡ 4 * n
  tests_weight o w index start from zero = refl
  tests_weight o w index start from (suc n) =
      let rest : body_weight inner (tests o w index (start + 2) (suc from) n) ≡ 4 * n = tests_weight o w index (start + 2) (suc from) n in
      omega arith

  choices_weight : (o : Op) (t : HwType) (test element : ℕ → Ref) (before n : ℕ) → length (leaves t) ≡ 1 → body_weight inner (choices o t test element before n) ≡ 4 * n
  choices_weight o t test element before zero one = refl
  choices_weight o t test element before (suc n) one =
      let rest : body_weight inner (choices o t test element (suc before) n) ≡ 4 * n = choices_weight o t test element (suc before) n one in
      omega arith

  leaf_choices_weight : (o : Op) (test : ℕ → Ref) (element : ℕ → ℕ → Ref) (sizes : ℕ → ℕ) (start l n : ℕ) (ts : List HwType)
      → ((i : ℕ) → sizes i ≤ n) → ((u : HwType) → In u ts → length (leaves u) ≡ 1) → body_weight inner (leaf_choices o test element sizes start l ts) ≤ length ts * (4 * n + 1)
  leaf_choices_weight o test element sizes start l n [] few one = omega arith
  leaf_choices_weight o test element sizes start l n (t ∷ ts) few one =
      linear (body_weight inner (choices o t test (element l) start (sizes l) ++ leaf_choices o test element sizes (start + suc (sizes l)) (suc l) ts))
      (body_weight inner (choices o t test (element l) start (sizes l))) (body_weight inner (leaf_choices o test element sizes (start + suc (sizes l)) (suc l) ts))
      (sizes l) n (length ts * (4 * n + 1)) (suc (length ts) * (4 * n + 1))
      (weight_append inner (choices o t test (element l) start (sizes l)) (leaf_choices o test element sizes (start + suc (sizes l)) (suc l) ts))
      (choices_weight o t test (element l) start (sizes l) (one t (inl refl))) (few l)
      (leaf_choices_weight o test element sizes (start + suc (sizes l)) (suc l) n ts few (λ u here. one u (inr here))) (suc-mul (length ts) (4 * n + 1))
    where
      linear : (a b c s n p q : ℕ) → a ≡ b + c → b ≡ 4 * s → s ≤ n → c ≤ p → q ≡ p + (4 * n + 1) → 1 + a ≤ q
      linear a b c s n p q x y z u v = omega arith

-- ---- operations

module _ (S : Lowering) (k : ℕ) (m : Module) (at : slice_get S.d k ≡ Some m) (j : ℕ) (o : Op) (is : slice_get m.body j ≡ Some o) (inner : Name → ℕ) where
  abbrev args : List (List Ref)
  args = map (parts_in S m) o.operands

  -- what a rule makes weighs no more than an operation of a kind with the same types
  abbrev LightRule : Kind → Rule → Type 0
  LightRule kind rule = (start : ℕ) → body_weight inner (rule.made args start) ≤ kind_weight inner kind o.types (length o.operands)

  by_cond : (b : Bool) (kind : Kind) (left right : Rule) → LightRule kind left → LightRule kind right → LightRule kind (cond b left right)
  by_cond true kind left right first second = first
  by_cond false kind left right first second = second

  -- ---- what stays

  known_length : (f : Ref → Option HwType) (rs : List Ref) (us : List HwType) → map f rs ≡ known_types us → length rs ≡ length us
  known_length f rs us given = sym (length-map rs f) ∙ ap length given ∙ length-map us (λ (u : HwType). Some u)

  plain_light : (kind : Kind) → o.kind ≡ kind → IsPlain (old_type m) o → LightRule kind (stays_rule o)
  plain_light kind same plain start =
      let size : length (joined_parts args) ≡ length o.operands =
      known_length (new_type S m) (joined_parts args) plain.operand_types
      (ap (map (new_type S m)) (joined S k m at j o is)
      ∙ scalars_typed (old_type m) (new_type S m) (parts_in S m) (parts_typed_at S k m at) o.operands plain.operand_types plain.operands plain.scalars)
      ∙ sym (known_length (old_type m) o.operands plain.operand_types plain.operands) in
      let weight_is : kind_weight inner o.kind o.types (length (joined_parts args)) ≡ kind_weight inner kind o.types (length o.operands) =
      ap₂ (λ kd n. kind_weight inner kd o.types n) same size in
      omega arith

  -- where its operands do not count
  stays_light : (kind : Kind) → o.kind ≡ kind → ((n n' : ℕ) → kind_weight inner kind o.types n ≡ kind_weight inner kind o.types n') → (rs : List Ref)
      → kind_weight inner o.kind o.types (length rs) + 0 ≤ kind_weight inner kind o.types (length o.operands)
  stays_light kind same steady rs =
      let weight_is : kind_weight inner o.kind o.types (length rs) ≡ kind_weight inner kind o.types (length o.operands) =
      ap (λ kd. kind_weight inner kd o.types (length rs)) same ∙ steady (length rs) (length o.operands) in
      omega arith

  -- ---- results

  one_each : (u : HwType) → In u (all_leaves o) → length (leaves u) ≡ 1
  one_each u here = let from = from_In-flat_map leaves u (result_types o) here in leaf_is_one from.0 u from.2

  all_length : (t : HwType) → result_types o ≡ t ∷ [] → length (all_leaves o) ≡ length (leaves t)
  all_length t one = ap length (all_of_one o t one)

  first_is : (t : HwType) → result_types o ≡ t ∷ [] → first_written o.types ∷ [] ≡ known_types (result_types o) → first_written o.types ≡ Some t
  first_is t one written = let only : first_written o.types ∷ [] ≡ Some t ∷ [] = written ∙ ap known_types one in cc

  second_is : (t : HwType) → result_types o ≡ t ∷ [] → second_written o.types ∷ [] ≡ known_types (result_types o) → second_written o.types ≡ Some t
  second_is t one written = let only : second_written o.types ∷ [] ≡ Some t ∷ [] = written ∙ ap known_types one in cc

  -- a result whose type is written has no more leaves than what is written
  few_leaves : (t : HwType) → result_types o ≡ t ∷ [] → first_written o.types ∷ [] ≡ known_types (result_types o) → length (all_leaves o) ≤ leaf_count o.types
  few_leaves t one written =
      let size : length (all_leaves o) ≡ length (leaves t) = all_length t one in
      let few : length (leaves t) ≤ leaf_count o.types = first_few o.types t (first_is t one written) in
      omega arith

  mux_light : o.kind ≡ mux → (t : HwType) → result_types o ≡ t ∷ [] → LightRule mux (cond (is_scalar (first_type o)) (stays_rule o) (mux_rule o))
  unfolding settled_types type_of_result
  mux_light kind t one =
      by_cond (is_scalar (first_type o)) mux (stays_rule o) (mux_rule o) (λ start. stays_light mux kind (λ n n'. refl) (joined_parts args))
      (λ start.
      let all : body_weight inner ((mux_rule o).made args start) ≤ 4 * length (all_leaves o) =
      for_each_weight inner (λ i u. made_op o mux (part (argument 0 args) 0 ∷ part (argument 1 args) i ∷ part (argument 2 args) i ∷ []) (u ∷ []) [] u) 4 0 (all_leaves o)
      (λ i u here. let size : length (leaves u) ≡ 1 = one_each u here in omega arith) in
      let few : length (all_leaves o) ≤ leaf_count o.types = few_leaves t one (ap (λ kd. settled_types kd o.types (length o.operands)) (sym kind) ∙ settled S k m at j o is) in
      linear (body_weight inner ((mux_rule o).made args start)) (length (all_leaves o)) (leaf_count o.types) all few)
    where
      linear : (a l c : ℕ) → a ≤ 4 * l → l ≤ c → a ≤ 4 * c
      linear a l c x y = omega arith

  wire_light : o.kind ≡ wire → (t : HwType) → result_types o ≡ t ∷ [] → LightRule wire (cond (is_scalar (first_type o)) (stays_rule o) (join_rule o (own_names o)))
  unfolding settled_types type_of_result
  wire_light kind t one =
      by_cond (is_scalar (first_type o)) wire (stays_rule o) (join_rule o (own_names o)) (λ start. stays_light wire kind (λ n n'. refl) (joined_parts args))
      (λ start.
      let all : body_weight inner ((join_rule o (own_names o)).made args start) ≤ 2 * length (all_leaves o) =
      for_each_weight inner (λ i u. made_op o wire (part (joined_parts args) i ∷ []) (u ∷ []) (own_names o i) u) 2 0 (all_leaves o)
      (λ i u here. let size : length (leaves u) ≡ 1 = one_each u here in omega arith) in
      let few : length (all_leaves o) ≤ leaf_count o.types = few_leaves t one (ap (λ kd. settled_types kd o.types (length o.operands)) (sym kind) ∙ settled S k m at j o is) in
      linear (body_weight inner ((join_rule o (own_names o)).made args start)) (length (all_leaves o)) (leaf_count o.types) all few)
    where
      linear : (a l c : ℕ) → a ≤ 2 * l → l ≤ c → a ≤ 2 * c
      linear a l c x y = omega arith

  cast_light : o.kind ≡ bitcast → (t : HwType) → result_types o ≡ t ∷ []
      → LightRule bitcast (cond (is_scalar (first_type o) && is_scalar (nth_type o.types 0)) (stays_rule o) (bitcast_rule o (nth_type o.types 0)))
  unfolding settled_types type_of_result
  cast_light kind t one =
      by_cond (is_scalar (first_type o) && is_scalar (nth_type o.types 0)) bitcast (stays_rule o) (bitcast_rule o (nth_type o.types 0))
      (λ start. stays_light bitcast kind (λ n n'. refl) (joined_parts args))
      (λ start.
      let all : body_weight inner ((bitcast_rule o (nth_type o.types 0)).made args start) ≤ 4 * (length (leaves (nth_type o.types 0)) + length (all_leaves o)) =
      cast_weight inner o (argument 0 args) (leaves (nth_type o.types 0)) start (all_leaves o) in
      let size : length (all_leaves o) ≡ length (leaves t) = all_length t one in
      let few : length (leaves (nth_type o.types 0)) + length (leaves t) ≤ leaf_count o.types =
      two_few o.types t (second_is t one (ap (λ kd. settled_types kd o.types (length o.operands)) (sym kind) ∙ settled S k m at j o is)) in
      linear (body_weight inner ((bitcast_rule o (nth_type o.types 0)).made args start)) (length (leaves (nth_type o.types 0))) (length (all_leaves o)) (length (leaves t))
      (leaf_count o.types) all size few)
    where
      linear : (a u l t c : ℕ) → a ≤ 4 * (u + l) → l ≡ t → u + t ≤ c → a ≤ 1 + 4 * c
      linear a u l t c x y z = omega arith

  constant_light : (ls : Literals) → (t : HwType) → result_types o ≡ t ∷ [] → literals_types ls ≡ leaves t → LightRule (aggregate_constant ls) (constant_rule o ls)
  constant_light ls t one shape start =
      let all : body_weight inner ((constant_rule o ls).made args start) ≤ 1 * length (all_leaves o) =
      for_each_weight inner (λ i u. made_op o (constant (number_at (literals_numbers ls) i)) [] (u ∷ []) [] u) 1 0 (all_leaves o) (λ i u here. omega arith) in
      let size : length (all_leaves o) ≡ literals_leaves ls = all_length t one ∙ ap length (sym shape) ∙ literals_length ls in
      linear (body_weight inner ((constant_rule o ls).made args start)) (length (all_leaves o)) (literals_leaves ls) all size
    where
      linear : (a l c : ℕ) → a ≤ 1 * l → l ≡ c → a ≤ c
      linear a l c x y = omega arith

  -- ---- what an index chooses

  choice_light : (n w : ℕ) (sizes : ℕ → ℕ) (element : List Ref → ℕ → ℕ → Ref) → ((i : ℕ) → sizes i ≤ n) → (start : ℕ)
      → body_weight inner ((choice_rule o n w sizes element).made args start) ≤ 4 * n + length (all_leaves o) * (4 * n + 1)
  choice_light n w sizes element few start =
      linear (body_weight inner ((choice_rule o n w sizes element).made args start)) (body_weight inner (tests o w (part (argument 1 args) 0) start 0 n))
      (body_weight inner (leaf_choices o (test_at start) (element (argument 0 args)) sizes (start + 2 * n) 0 (all_leaves o))) (4 * n) (length (all_leaves o) * (4 * n + 1))
      (weight_append inner (tests o w (part (argument 1 args) 0) start 0 n) (leaf_choices o (test_at start) (element (argument 0 args)) sizes (start + 2 * n) 0 (all_leaves o)))
      (tests_weight inner o w (part (argument 1 args) 0) start 0 n)
      (leaf_choices_weight inner o (test_at start) (element (argument 0 args)) sizes (start + 2 * n) 0 n (all_leaves o) few one_each)
    where
      linear : (a b c p q : ℕ) → a ≡ b + c → b ≡ p → c ≤ q → a ≤ p + q
      linear a b c p q x y z = omega arith

  same_length : (t : HwType) → array_length t ≡ element_count t
  same_length (array n t) = refl
  same_length _ = refl

  get_light : (n : ℕ) (t : HwType) → result_types o ≡ t ∷ [] → nth_type o.types 0 ≡ array n t → (w : ℕ)
      → LightRule (on_array array_get) (get_rule o (array_length (nth_type o.types 0)) w)
  get_light n t one first w start =
      subst (λ z. body_weight inner ((get_rule o (array_length (nth_type o.types 0)) w).made args start) ≤ z)
      (ap₂ (λ c l. 4 * c + l * (4 * c + 1)) (same_length (nth_type o.types 0)) (all_length t one ∙ sym (ap element_leaves first))
      ∙ ap (λ z. 4 * element_count (nth_type o.types 0) + z) (sym (one-mul (element_leaves (nth_type o.types 0) * (4 * element_count (nth_type o.types 0) + 1)))))
      (choice_light (array_length (nth_type o.types 0)) w (λ l. array_length (nth_type o.types 0)) (element_leaf (array_length (nth_type o.types 0)) (length (all_leaves o)))
      (λ i. omega arith) start)

  slice_light : o.kind ≡ on_array array_slice → (n c : ℕ) (e : HwType) → result_types o ≡ array c e ∷ [] → nth_type o.types 0 ≡ array n e
      → (copies m' w : ℕ) → LightRule (on_array array_slice) (slice_rule o (array_length (nth_type o.types 0)) copies m' w)
  unfolding settled_types type_of_result
  slice_light kind n c e one first copies m' w start =
      subst (λ z. body_weight inner ((slice_rule o (array_length (nth_type o.types 0)) copies m' w).made args start) ≤ z)
      (ap₂ (λ x l. 4 * x + l * (4 * x + 1)) (same_length (nth_type o.types 0)) size
      ∙ ap (λ z. 4 * element_count (nth_type o.types 0) + z)
      (mul_assoc (element_count (nth_type o.types 1)) (element_leaves (nth_type o.types 0)) (4 * element_count (nth_type o.types 0) + 1)))
      (choice_light (array_length (nth_type o.types 0)) w (λ l. array_length (nth_type o.types 0) - element_of copies m' l)
      (λ rs l i. element_leaf (array_length (nth_type o.types 0)) m' rs (l % m') (i + element_of copies m' l)) (λ i. omega arith) start)
    where
      second : nth_type o.types 1 ≡ array c e
      second = nth_second o.types (array c e) (second_is (array c e) one (ap (λ kd. settled_types kd o.types (length o.operands)) (sym kind) ∙ settled S k m at j o is))

      size : length (all_leaves o) ≡ element_count (nth_type o.types 1) * element_leaves (nth_type o.types 0)
      size = all_length (array c e) one ∙ copies_length c (leaves e) ∙ ap₂ (λ x y. x * y) (sym (ap element_count second)) (sym (ap element_leaves first))

  put_light : (n : ℕ) (e : HwType) → result_types o ≡ array n e ∷ [] → nth_type o.types 0 ≡ array n e → (m' w : ℕ)
      → LightRule (on_array array_inject) (array_inject_rule o (array_length (nth_type o.types 0)) m' w)
  put_light n e one first m' w start =
      linear (body_weight inner ((array_inject_rule o (array_length (nth_type o.types 0)) m' w).made args start))
      (body_weight inner (tests o w (part (argument 1 args) 0) start 0 (array_length (nth_type o.types 0)))) (body_weight inner (for_each each 0 (all_leaves o)))
      (array_length (nth_type o.types 0)) (element_count (nth_type o.types 0)) (length (all_leaves o)) (element_count (nth_type o.types 0) * element_leaves (nth_type o.types 0))
      (weight_append inner (tests o w (part (argument 1 args) 0) start 0 (array_length (nth_type o.types 0))) (for_each each 0 (all_leaves o)))
      (tests_weight inner o w (part (argument 1 args) 0) start 0 (array_length (nth_type o.types 0)))
      (for_each_weight inner each 4 0 (all_leaves o) (λ i u here. let one_u : length (leaves u) ≡ 1 = one_each u here in omega arith))
      (same_length (nth_type o.types 0)) size
    where
      each : ℕ → HwType → Op
      each l t = made_op o mux (test_at start (element_of (array_length (nth_type o.types 0)) m' l) ∷ part (argument 2 args) (l % m') ∷ part (argument 0 args) l ∷ []) (t ∷ []) [] t

      size : length (all_leaves o) ≡ element_count (nth_type o.types 0) * element_leaves (nth_type o.types 0)
      size = all_length (array n e) one ∙ copies_length n (leaves e) ∙ ap₂ (λ x y. x * y) (sym (ap element_count first)) (sym (ap element_leaves first))

      linear : (a b c x y l p : ℕ) → a ≡ b + c → b ≡ 4 * x → c ≤ 4 * l → x ≡ y → l ≡ p → a ≤ 4 * y + 4 * p
      linear a b c x y l p e1 e2 e3 e4 e5 = omega arith

  -- ---- registers

  registers_light : (kind : Kind) (c : ℕ) → o.kind ≡ kind → ((ts : List HwType) (n : ℕ) → kind_weight inner kind ts n ≡ c * leaf_count ts) → (e : Bool) (r : Reset)
      → (t : HwType) → result_types o ≡ t ∷ [] → first_written o.types ∷ [] ≡ known_types (result_types o)
      → LightRule kind (cond (is_scalar (first_type o)) (register_stays_rule o (record { has_enable = e; reset = r })) (register_rule o (record { has_enable = e; reset = r }) (own_names o)))
  registers_light kind c same weighs e r t one written =
      by_cond (is_scalar (first_type o)) kind (register_stays_rule o (record { has_enable = e; reset = r })) (register_rule o (record { has_enable = e; reset = r }) (own_names o))
      (λ start. stays_light kind same (λ n n'. weighs o.types n ∙ sym (weighs o.types n')) (leaf_operands e r args 0))
      (λ start.
      let all : body_weight inner (for_each each 0 (leaves_of (result_type o 0))) ≤ c * length (leaves_of (result_type o 0)) =
      for_each_weight inner each c 0 (leaves_of (result_type o 0))
      (λ i u here.
      let own : kind_weight inner o.kind (u ∷ []) (length (leaf_operands e r args i)) ≡ c =
      ap (λ kd. kind_weight inner kd (u ∷ []) (length (leaf_operands e r args i))) same ∙ weighs (u ∷ []) (length (leaf_operands e r args i))
      ∙ ap (λ n. c * (n + 0)) (one_each u (subst (In u) (same_leaves S k m at j o is t one) here)) ∙ mul-one c in
      omega arith) in
      let size : length (leaves_of (result_type o 0)) ≤ leaf_count o.types =
      subst (λ ts. length ts ≤ leaf_count o.types) (sym (same_leaves S k m at j o is t one)) (few_leaves t one written) in
      let more : c * length (leaves_of (result_type o 0)) ≤ c * leaf_count o.types = mul-le-mul_left c size in
      let weight_is : kind_weight inner kind o.types (length o.operands) ≡ c * leaf_count o.types = weighs o.types (length o.operands) in
      linear (body_weight inner (for_each each 0 (leaves_of (result_type o 0)))) (c * length (leaves_of (result_type o 0))) (c * leaf_count o.types)
      (kind_weight inner kind o.types (length o.operands)) all more weight_is)
    where
      each : ℕ → HwType → Op
      each i t = made_op o o.kind (leaf_operands e r args i) (t ∷ []) (own_names o i) t

      linear : (a b c d : ℕ) → a ≤ b → b ≤ c → d ≡ c → a ≤ d
      linear a b c d x y z = omega arith

  register_light : (f : RegisterOp) (r : Reset) → o.kind ≡ register f r → (t : HwType) → result_types o ≡ t ∷ []
      → LightRule (register f r) (cond (is_scalar (first_type o)) (register_stays_rule o (record { has_enable = takes_enable f; reset = r })) (register_rule o (record { has_enable = takes_enable f; reset = r }) (own_names o)))
  unfolding settled_types type_of_result
  register_light f r kind t one =
      registers_light (register f r) (register_weight f + reset_weight r) kind (λ ts n. refl) (takes_enable f) r t one
      (ap (λ kd. settled_types kd o.types (length o.operands)) (sym kind) ∙ settled S k m at j o is)

  async_light : o.kind ≡ async_firreg → (t : HwType) → result_types o ≡ t ∷ []
      → LightRule async_firreg (cond (is_scalar (first_type o)) (register_stays_rule o (record { has_enable = false; reset = sync_reset })) (register_rule o (record { has_enable = false; reset = sync_reset }) (own_names o)))
  unfolding settled_types type_of_result
  async_light kind t one =
      registers_light async_firreg (register_weight firreg + reset_weight sync_reset) kind (λ ts n. refl) false sync_reset t one
      (ap (λ kd. settled_types kd o.types (length o.operands)) (sym kind) ∙ settled S k m at j o is)

  -- ---- instances and outputs

  instance_light : (i : Instance) → o.kind ≡ instance i → LightRule (instance i) (spread_rule o (S.named o))
  instance_light i kind start =
      let weight_is : kind_weight inner (S.named o) (flat_map leaves o.types) (length (joined_parts args)) ≡ 1 + leaf_count (flat_map leaves o.types) + inner i.symbol =
      ap (λ kd. kind_weight inner kd (flat_map leaves o.types) (length (joined_parts args))) (named_leaves S k m at j o is i kind) in
      let count : leaf_count (flat_map leaves o.types) ≡ leaf_count o.types = flat_count o.types in
      linear (kind_weight inner (S.named o) (flat_map leaves o.types) (length (joined_parts args))) (leaf_count (flat_map leaves o.types)) (leaf_count o.types) (inner i.symbol) weight_is count
    where
      linear : (a b c d : ℕ) → a ≡ 1 + b + d → b ≡ c → a + 0 ≤ 1 + c + d
      linear a b c d x y = omega arith

  output_light : LightRule output (spread_rule o output)
  output_light start = linear (leaf_count (flat_map leaves o.types)) (leaf_count o.types) (flat_count o.types)
    where
      linear : (b c : ℕ) → b ≡ c → 1 + b + 0 ≤ 1 + c
      linear b c x = omega arith

  -- ---- all kinds

  block_kind : (kind : Kind) → o.kind ≡ kind → only_joins kind ≡ false → IsRegular S.named (old_type m) o kind → LightRule kind (rule_of S.named o kind)
  block_kind mux same stays (t, one) = mux_light same t one
  block_kind wire same stays (t, one) = wire_light same t one
  block_kind bitcast same stays (u, t, one, given, written, equal) = cast_light same t one
  block_kind (aggregate_constant ls) same stays (t, one, shape) = constant_light ls t one shape
  block_kind (on_array array_create) same stays regular = cc
  block_kind (on_array array_concat) same stays regular = cc
  block_kind (on_array array_get) same stays (n, w, t, one, given, first, second, room) = get_light n t one first _
  block_kind (on_array array_slice) same stays (n, c, e, one, given, first, room) = slice_light same n c e one first _ _ _
  block_kind (on_array array_inject) same stays (n, w, e, one, given, first, second, room) = put_light n e one first _ _
  block_kind (on_struct f) same stays regular = cc
  block_kind (instance i) same stays regular = instance_light i same
  block_kind output same stays regular = output_light
  block_kind (register f r) same stays (t, one) = register_light f r same t one
  block_kind async_firreg same stays (t, one) = async_light same t one
  block_kind k same stays plain = plain_light k same plain

  block_light : only_joins o.kind ≡ false → LightRule o.kind (rule_of S.named o o.kind)
  block_light stays = block_kind o.kind refl stays (regular_at S k m at j o is)

-- ---- bodies

module _ (inner : Name → ℕ) (rules : Rules) where
  -- the operations from somewhere on are the blocks of these operations: one of an operation that does not only join is no heavier than that
  abbrev AreLight : List Op → List Op → Type 0
  AreLight [] tail = tail ≡ []
  AreLight (o ∷ os) tail =
      (ws : List Op) × (rest : List Op) × (tail ≡ ws ++ rest) × (length ws ≡ count_by rules o) × (only_joins o.kind ≡ false → body_weight inner ws ≤ op_weight inner o) × AreLight os rest

  light_retarget : (f : Ref → Ref) (os tail : List Op) → AreLight os tail → AreLight os (map (retarget f) tail)
  light_retarget f [] tail none = ap (map (retarget f)) none
  light_retarget f (o ∷ os) tail (ws, rest, tail_is, size, light, more) = (
    map (retarget f) ws,
    map (retarget f) rest,
    ap (map (retarget f)) tail_is ∙ map-append (retarget f) ws rest,
    length-map ws (retarget f) ∙ size,
    (λ stays. subst (λ n. n ≤ op_weight inner o) (sym (weight-retarget inner f ws)) (light stays)),
    light_retarget f os rest more,
  )

  without_joins_light : (os prefix tail : List Op) → AreLight os tail
      → body_weight inner (without_joins rules (length prefix) os (prefix ++ tail)) ≤ body_weight inner prefix + body_weight inner os
  without_joins_light [] prefix tail none =
      linear (body_weight inner (prefix ++ tail)) (body_weight inner prefix) (body_weight inner tail) (weight_append inner prefix tail) (ap (body_weight inner) none)
    where
      linear : (a b c : ℕ) → a ≡ b + c → c ≡ 0 → a ≤ b + 0
      linear a b c x y = omega arith
  without_joins_light (o ∷ os) prefix tail (ws, rest, tail_is, size, light, more) = go (only_joins o.kind) refl (without_joins_light os)
    where
      go : (b : Bool) → only_joins o.kind ≡ b
          → ((prefix tail : List Op) → AreLight os tail → body_weight inner (without_joins rules (length prefix) os (prefix ++ tail)) ≤ body_weight inner prefix + body_weight inner os)
          → body_weight inner
          (cond b (without_joins rules (length prefix) os (unwire (length prefix) (count_by rules o) (prefix ++ tail))) (without_joins rules (length prefix + count_by rules o) os (prefix ++ tail)))
          ≤ body_weight inner prefix + (op_weight inner o + body_weight inner os)
      go false stays rec =
          linear (body_weight inner (without_joins rules (length prefix + count_by rules o) os (prefix ++ tail)))
          (body_weight inner (without_joins rules (length (prefix ++ ws)) os ((prefix ++ ws) ++ rest))) (body_weight inner (prefix ++ ws)) (body_weight inner prefix) (body_weight inner ws)
          (op_weight inner o) (body_weight inner os)
          (ap₂ (λ n body. body_weight inner (without_joins rules n os body)) (sym (length-append prefix ws ∙ ap (λ n. length prefix + n) size))
          (ap (λ zs. prefix ++ zs) tail_is ∙ sym (append_assoc prefix ws rest)))
          (rec (prefix ++ ws) rest more) (weight_append inner prefix ws) (light stays)
        where
          linear : (a b c f w x y : ℕ) → a ≡ b → b ≤ c + y → c ≡ f + w → w ≤ x → a ≤ f + (x + y)
          linear a b c f w x y e1 e2 e3 e4 = omega arith
      go true joins rec =
          linear (body_weight inner (without_joins rules (length prefix) os (unwire (length prefix) (count_by rules o) (prefix ++ tail))))
          (body_weight inner (without_joins rules (length (map (retarget others.stand) prefix)) os (map (retarget others.stand) prefix ++ map (retarget others.stand) rest)))
          (body_weight inner (map (retarget others.stand) prefix)) (body_weight inner prefix) (op_weight inner o) (body_weight inner os)
          (ap₂ (λ n body. body_weight inner (without_joins rules n os body)) (sym (length-map prefix (retarget others.stand)))
          (ap (λ zs. unwire (length prefix) (count_by rules o) (prefix ++ zs)) tail_is ∙ others.body_is))
          (rec (map (retarget others.stand) prefix) (map (retarget others.stand) rest) (light_retarget others.stand os rest more)) (weight-retarget inner others.stand prefix)
        where
          others : Others prefix rest (unwire (length prefix) (count_by rules o) (prefix ++ (ws ++ rest)))
          others = others_stay (count_by rules o) prefix ws rest size

          linear : (a b c f x y : ℕ) → a ≡ b → b ≤ c + y → c ≡ f → a ≤ f + (x + y)
          linear a b c f x y e1 e2 e3 = omega arith

module _ (S : Lowering) (k : ℕ) (m : Module) (at : slice_get S.d k ≡ Some m) (inner : Name → ℕ) where
  light_rules : (os : List Op) → ((o : Op) → In o os → In o m.body) → (start : ℕ) → AreLight inner (rules_of S) os (blocks (rules_of S) (parts_in S m) start os)
  light_rules [] among start = refl
  light_rules (o ∷ os) among start = (
    block_by (rules_of S) (parts_in S m) start o,
    blocks (rules_of S) (parts_in S m) (start + count_by (rules_of S) o) os,
    refl,
    (splits_at S k m at o (among o (inl refl))).shape.size start,
    (λ stays. let spot = position_of_In o m.body (among o (inl refl)) in block_light S k m at spot.0 o spot.1 inner stays start),
    light_rules os (λ p here. among p (inr here)) (start + count_by (rules_of S) o),
  )

  module_light : weight_of inner (Some (joined_module (rules_of S) m)) ≤ weight_of inner (Some m)
  module_light =
      linear (leaf_count (port_types (S.split m.ports))) (leaf_count (port_types m.ports))
      (body_weight inner (without_joins (rules_of S) 0 m.body (blocks (rules_of S) (parts_in S m) 0 m.body))) (body_weight inner m.body)
      (split_count m.ports (S.split m.ports) (S.ports.leaves_are m.ports))
      (without_joins_light inner (rules_of S) m.body [] (blocks (rules_of S) (parts_in S m) 0 m.body) (light_rules m.body (λ o here. here) 0))
    where
      linear : (a b c d : ℕ) → a ≡ b → c ≤ 0 + d → a + c ≤ b + d
      linear a b c d x y = omega arith

-- ---- designs

-- the module of a symbol in a design without joins
pub find_joined : (rules : Rules) (d : Design) (s : Name) → find_module (joined_design rules d) s ≡ option_map (joined_module rules) (find_module d s)
find_joined rules [] s = refl
find_joined rules (m ∷ d) s = go (same_name m.symbol s) (find_joined rules d s)
  where
    go : (b : Bool) → find_module (joined_design rules d) s ≡ option_map (joined_module rules) (find_module d s)
        → cond b (Some (joined_module rules m)) (find_module (joined_design rules d) s) ≡ option_map (joined_module rules) (cond b (Some m) (find_module d s))
    go true rest = refl
    go false rest = rest

pub joined_light : (S : Lowering) (s : Name) → weight (joined_design (rules_of S) S.d) s ≤ weight S.d s
joined_light S =
    weight_not_raised S.d (joined_design (rules_of S) S.d) (length-map S.d (joined_module (rules_of S)))
    (λ s inner. subst (λ x. weight_of inner x ≤ weight_of inner (find_module S.d s)) (sym (find_joined (rules_of S) S.d s)) (go s inner (find_module S.d s) refl))
  where
    go : (s : Name) (inner : Name → ℕ) (x : Option Module) → find_module S.d s ≡ x → weight_of inner (option_map (joined_module (rules_of S)) x) ≤ weight_of inner x
    go s inner None is = omega arith
    go s inner (Some m) is =
        let position = position_of_In m S.d (found_module S.d s m is) in
        module_light S position.0 m position.1 inner

pub joins_light : (split : List Port → List Port) (named : Op → Kind) (d : Design) → IsFit d → NamesPorts split d → NamesInstances split d named
    → (s : Name) → weight (joined_design (aggregate_rules split named) d) s ≤ weight d s
joins_light split named d fit ports instances = joined_light (record { split = split; named = named; d = d; fit = fit; ports = ports; instances = instances })
