-- The results of the operations of a lowered design have no parts.
use Rattle.std.proofs.Common.{◌≡◌, ℕ, zero, suc, ◌+◌, ◌*◌, ◌-◌, ◌%◌, Bool, true, false, cond, ◌&&◌, List, [], ◌∷◌, ◌++◌, map, remove, length, Option, Some, None, refl, sym, ap, ap₂, subst, ◌∙◌, inl, inr}
use Rattle.hw_model.specs.Types.{Name, HwType, leaves, width}
use Rattle.hw_model.specs.Kinds.{Kind}
use Rattle.hw_model.specs.Kinds.Reset.{sync_reset}
use Rattle.hw_model.specs.Kinds.ArrayOp.{array_create, array_concat, array_get, array_slice, array_inject}
use Rattle.hw_model.specs.Kinds.StructOp.{struct_create, struct_extract, struct_inject, struct_explode}
use Rattle.hw_model.specs.Kinds.Kind.{concat, mux, constant, aggregate_constant, on_array, on_struct, bitcast, wire, instance, output, register, async_firreg}
use Rattle.hw_model.specs.Design.{Ref, Port, OpResult, Op, RegisterForm, Module, Design, takes_enable, result_type}
use Rattle.hw_model.specs.Value.{fields, nth_type}
use Rattle.wiring.specs.Wiring.{In}
use Rattle.wiring.proofs.Edits.{from_In-remove}
use Rattle.wiring.proofs.Members.{position_of_In, from_In-map, from_In-flat_map}
use Rattle.edit_laws.specs.Edit.{retarget}
use Rattle.edit_laws.specs.Laws.{without, erase_op}
use Rattle.hw_model.specs.Design.Ref.{result, undefined}
use Rattle.inline_laws.specs.Unwire.{operand_at, unwire}
use Rattle.aggregate_laws.specs.Leaves.{in_row, part, bare_result, result_types, leaf_operands, leaves_of}
use Rattle.aggregate_laws.specs.Rules.{Rules, count_by, blocks}
use Rattle.aggregate_laws.specs.OperationRules.{made_op, all_leaves, argument, joined_parts, field_parts, with_field_parts, literals_numbers, number_at, for_each, stays_rule, mux_rule, join_rule, register_rule, register_stays_rule}
use Rattle.aggregate_laws.specs.Choices.{tests, test_at, choices, leaf_choices, element_leaf, element_of}
use Rattle.aggregate_laws.specs.Bitcasts.{Piece, pieces, piece_type, extracts, joined_pieces, joined_end, leaf_pieces, bitcast_rule}
use Rattle.aggregate_laws.specs.Aggregates.{is_scalar, first_type, array_length, element_type, index_bits, own_names, register_by, rule_of, IsRegular, HasOne}
use Rattle.aggregate_laws.specs.Scalars.{has_aggregate_port, has_aggregate_type, has_aggregate_result, has_aggregates}
use Rattle.aggregate_laws.proofs.Scalars.{leaf_scalar}
use Rattle.aggregate_acceptance.specs.Joins.{only_joins, without_joins, joined_module, joined_design}
use Rattle.aggregate_lower.proofs.Unaggregated.{both_without, scalar_result}
use Rattle.aggregate_acceptance.proofs.LoweredModules.{Lowering, rules_of, parts_in, new_body, old_type, regular_at}

-- an operation whose results have no parts; operations that all are so
abbrev Plain : Op → Type 0
Plain x = has_aggregate_type x.results ≡ false

abbrev AllPlain : List Op → Type 0
AllPlain xs = has_aggregate_result xs ≡ false

plain_append : (xs ys : List Op) → AllPlain xs → AllPlain ys → AllPlain (xs ++ ys)
plain_append [] ys first second = second
plain_append (x ∷ xs) ys first second =
    let both = both_without (has_aggregate_type x.results) (has_aggregate_result xs) first in
    ap₂ (λ a b. cond a true b) both.0 (plain_append xs ys both.1 second)

-- ---- what is made

-- types without parts
abbrev AllScalar : List HwType → Type 0
AllScalar ts = (t : HwType) → In t ts → is_scalar t ≡ true

for_each_plain : (each : ℕ → HwType → Op) (n : ℕ) (ts : List HwType) → ((i : ℕ) (t : HwType) → In t ts → Plain (each i t)) → AllPlain (for_each each n ts)
for_each_plain each n [] all = refl
for_each_plain each n (t ∷ ts) all = ap₂ (λ a b. cond a true b) (all n t (inl refl)) (for_each_plain each (suc n) ts (λ i u here. all i u (inr here)))

tests_plain : (o : Op) (w : ℕ) (index : Ref) (start from n : ℕ) → AllPlain (tests o w index start from n)
tests_plain o w index start from zero = refl
tests_plain o w index start from (suc n) = tests_plain o w index (start + 2) (suc from) n

choices_plain : (o : Op) (t : HwType) (test element : ℕ → Ref) (before n : ℕ) → is_scalar t ≡ true → AllPlain (choices o t test element before n)
choices_plain o t test element before zero scalar = refl
choices_plain o t test element before (suc n) scalar =
    ap₂ (λ a b. cond (cond a false true) true b) scalar (choices_plain o t test element (suc before) n scalar)

leaf_choices_plain : (o : Op) (test : ℕ → Ref) (element : ℕ → ℕ → Ref) (sizes : ℕ → ℕ) (start l : ℕ) (ts : List HwType) → AllScalar ts → AllPlain (leaf_choices o test element sizes start l ts)
leaf_choices_plain o test element sizes start l [] scalars = refl
leaf_choices_plain o test element sizes start l (t ∷ ts) scalars =
    ap₂ (λ a b. cond (cond a false true) true b) (scalars t (inl refl))
    (plain_append (choices o t test (element l) start (sizes l)) (leaf_choices o test element sizes (start + suc (sizes l)) (suc l) ts)
    (choices_plain o t test (element l) start (sizes l) (scalars t (inl refl)))
    (leaf_choices_plain o test element sizes (start + suc (sizes l)) (suc l) ts (λ u here. scalars u (inr here))))

extracts_plain : (o : Op) (rs : List Ref) (ps : List Piece) → AllPlain (extracts o rs ps)
extracts_plain o rs [] = refl
extracts_plain o rs (p ∷ ps) = extracts_plain o rs ps

joined_plain : (o : Op) (rs : List Ref) (t : HwType) (start : ℕ) (ps : List Piece) → is_scalar t ≡ true → AllPlain (joined_pieces o rs t start ps)
joined_plain o rs t start [] scalar = ap (λ a. cond (cond a false true) true false) scalar
joined_plain o rs t start (p ∷ []) scalar = ap (λ a. cond (cond a false true) true false) scalar
joined_plain o rs t start (p ∷ q ∷ ps) scalar =
    plain_append (extracts o rs ps) (made_op o concat (in_row (λ i. result i 0) start (length (p ∷ q ∷ ps))) (map piece_type (p ∷ q ∷ ps)) [] t ∷ []) (extracts_plain o rs ps)
    (ap (λ a. cond (cond a false true) true false) scalar)

leaf_pieces_plain : (o : Op) (rs : List Ref) (us : List HwType) (skip start : ℕ) (ts : List HwType) → AllScalar ts → AllPlain (leaf_pieces o rs us skip start ts)
leaf_pieces_plain o rs us skip start [] scalars = refl
leaf_pieces_plain o rs us skip start (t ∷ ts) scalars =
    plain_append (joined_pieces o rs t start (pieces 0 us skip (width t)))
    (leaf_pieces o rs us (skip + width t) (start + suc (joined_end (pieces 0 us skip (width t)))) ts)
    (joined_plain o rs t start (pieces 0 us skip (width t)) (scalars t (inl refl)))
    (leaf_pieces_plain o rs us (skip + width t) (start + suc (joined_end (pieces 0 us skip (width t)))) ts (λ u here. scalars u (inr here)))

bare_plain : (ts : List HwType) → AllScalar ts → has_aggregate_type (map bare_result ts) ≡ false
bare_plain [] scalars = refl
bare_plain (t ∷ ts) scalars = ap₂ (λ a b. cond a b true) (scalars t (inl refl)) (bare_plain ts (λ u here. scalars u (inr here)))

all_leaves_scalar : (o : Op) → AllScalar (all_leaves o)
all_leaves_scalar o t here =
    let from = from_In-flat_map leaves t (result_types o) here in leaf_scalar from.0 t from.2

-- ---- what stays

one_plain : (xs : List OpResult) (t : HwType) → map (λ (x : OpResult). x.type) xs ≡ t ∷ [] → is_scalar t ≡ true → has_aggregate_type xs ≡ false
one_plain [] t one scalar = refl
one_plain (x ∷ []) t one scalar = let same : x.type ≡ t = cc in ap (λ b. cond b false true) (ap is_scalar same ∙ scalar)
one_plain (x ∷ y ∷ xs) t one scalar = cc

first_scalar : (o : Op) (t : HwType) → result_types o ≡ t ∷ [] → is_scalar (first_type o) ≡ true → Plain o
first_scalar o t one scalar = one_plain o.results t one (sym (ap is_scalar (ap (λ ts. nth_type ts 0) one)) ∙ scalar)

first_and : (a b : Bool) → a && b ≡ true → a ≡ true
first_and true b both = refl
first_and false b both = cc

leaves_of_scalar : (t : Option HwType) → AllScalar (leaves_of t)
leaves_of_scalar None u here = absurd here
leaves_of_scalar (Some t) u here = leaf_scalar t u here

-- ---- rules

module _ (named : Op → Kind) (o : Op) where
  leafwise_plain : (each : ℕ → HwType → Op) → ((i : ℕ) (t : HwType) → is_scalar t ≡ true → Plain (each i t)) → AllPlain (for_each each 0 (all_leaves o))
  leafwise_plain each plain = for_each_plain each 0 (all_leaves o) (λ i t here. plain i t (all_leaves_scalar o t here))

  wires_plain : (names : ℕ → Name) (rs : List Ref) → AllPlain (for_each (λ i t. made_op o wire (part rs i ∷ []) (t ∷ []) (names i) t) 0 (all_leaves o))
  wires_plain names rs = leafwise_plain (λ i t. made_op o wire (part rs i ∷ []) (t ∷ []) (names i) t) (λ i t is. ap (λ b. cond b false true) is)

  register_plain : (form : RegisterForm) → HasOne o → (args : List (List Ref)) (start : ℕ) → AllPlain ((register_by o form).made args start)
  register_plain form one args start = go (is_scalar (first_type o)) refl
    where
      go : (b : Bool) → is_scalar (first_type o) ≡ b → AllPlain ((cond b (register_stays_rule o form) (register_rule o form (own_names o))).made args start)
      go true scalar = ap (λ a. cond a true false) (first_scalar o one.0 one.1 scalar)
      go false scalar =
          for_each_plain (λ i t. made_op o o.kind (leaf_operands form.has_enable form.reset args i) (t ∷ []) (own_names o i) t) 0 (leaves_of (result_type o 0))
          (λ i t here. ap (λ b. cond b false true) (leaves_of_scalar (result_type o 0) t here))

  rule_plain : (type_of : Ref → Option HwType) (kind : Kind) → IsRegular named type_of o kind → (args : List (List Ref)) (start : ℕ) → AllPlain ((rule_of named o kind).made args start)
  rule_plain type_of mux one args start = go (is_scalar (first_type o)) refl
    where
      go : (b : Bool) → is_scalar (first_type o) ≡ b → AllPlain ((cond b (stays_rule o) (mux_rule o)).made args start)
      go true scalar = ap (λ a. cond a true false) (first_scalar o one.0 one.1 scalar)
      go false scalar =
          leafwise_plain (λ i t. made_op o mux (part (argument 0 args) 0 ∷ part (argument 1 args) i ∷ part (argument 2 args) i ∷ []) (t ∷ []) [] t) (λ i t is. ap (λ b. cond b false true) is)
  rule_plain type_of wire one args start = go (is_scalar (first_type o)) refl
    where
      go : (b : Bool) → is_scalar (first_type o) ≡ b → AllPlain ((cond b (stays_rule o) (join_rule o (own_names o))).made args start)
      go true scalar = ap (λ a. cond a true false) (first_scalar o one.0 one.1 scalar)
      go false scalar = wires_plain (own_names o) (joined_parts args)
  rule_plain type_of bitcast regular args start = go (is_scalar (first_type o) && is_scalar (nth_type o.types 0)) refl
    where
      go : (b : Bool) → is_scalar (first_type o) && is_scalar (nth_type o.types 0) ≡ b → AllPlain ((cond b (stays_rule o) (bitcast_rule o (nth_type o.types 0))).made args start)
      go true scalar = ap (λ a. cond a true false) (first_scalar o regular.1 regular.2 (first_and (is_scalar (first_type o)) (is_scalar (nth_type o.types 0)) scalar))
      go false scalar = leaf_pieces_plain o _ (leaves (nth_type o.types 0)) 0 start (all_leaves o) (all_leaves_scalar o)
  rule_plain type_of (aggregate_constant ls) regular args start =
      leafwise_plain (λ i t. made_op o (constant (number_at (literals_numbers ls) i)) [] (t ∷ []) [] t) (λ i t is. ap (λ b. cond b false true) is)
  rule_plain type_of (on_array array_create) regular args start = wires_plain (λ i. []) (joined_parts args)
  rule_plain type_of (on_array array_concat) regular args start = wires_plain (λ i. []) (joined_parts args)
  rule_plain type_of (on_array array_get) regular args start =
      let n = array_length (nth_type o.types 0) in
      let w = width (nth_type o.types 1) in
      plain_append (tests o w (part (argument 1 args) 0) start 0 n)
      (leaf_choices o (test_at start) (element_leaf n (length (all_leaves o)) (argument 0 args)) (λ l. n) (start + 2 * n) 0 (all_leaves o))
      (tests_plain o w (part (argument 1 args) 0) start 0 n)
      (leaf_choices_plain o (test_at start) (element_leaf n (length (all_leaves o)) (argument 0 args)) (λ l. n) (start + 2 * n) 0 (all_leaves o) (all_leaves_scalar o))
  rule_plain type_of (on_array array_slice) regular args start =
      let n = array_length (nth_type o.types 0) in
      let k = array_length (first_type o) in
      let m = length (leaves (element_type (nth_type o.types 0))) in
      let element : ℕ → ℕ → Ref = λ l e. element_leaf n m (argument 0 args) (l % m) (e + element_of k m l) in
      plain_append (tests o (index_bits n) (part (argument 1 args) 0) start 0 n)
      (leaf_choices o (test_at start) element (λ l. n - element_of k m l) (start + 2 * n) 0 (all_leaves o))
      (tests_plain o (index_bits n) (part (argument 1 args) 0) start 0 n)
      (leaf_choices_plain o (test_at start) element (λ l. n - element_of k m l) (start + 2 * n) 0 (all_leaves o) (all_leaves_scalar o))
  rule_plain type_of (on_array array_inject) regular args start =
      let n = array_length (nth_type o.types 0) in
      let m = length (leaves (element_type (nth_type o.types 0))) in
      let w = width (nth_type o.types 1) in
      let each : ℕ → HwType → Op =
      λ l t. made_op o mux (test_at start (element_of n m l) ∷ part (argument 2 args) (l % m) ∷ part (argument 0 args) l ∷ []) (t ∷ []) [] t in
      plain_append (tests o w (part (argument 1 args) 0) start 0 n) (for_each each 0 (all_leaves o)) (tests_plain o w (part (argument 1 args) 0) start 0 n)
      (leafwise_plain each (λ i t is. ap (λ b. cond b false true) is))
  rule_plain type_of (on_struct struct_create) regular args start = wires_plain (λ i. []) (joined_parts args)
  rule_plain type_of (on_struct (struct_extract name)) regular args start = wires_plain (λ i. []) (field_parts (fields (nth_type o.types 0)) name (argument 0 args))
  rule_plain type_of (on_struct (struct_inject name)) regular args start = wires_plain (λ i. []) (with_field_parts (fields (nth_type o.types 0)) name (argument 0 args) (argument 1 args))
  rule_plain type_of (on_struct struct_explode) regular args start = wires_plain (λ i. []) (joined_parts args)
  rule_plain type_of (instance i) regular args start = ap (λ a. cond a true false) (bare_plain (all_leaves o) (all_leaves_scalar o))
  rule_plain type_of output regular args start = ap (λ a. cond a true false) (bare_plain (all_leaves o) (all_leaves_scalar o))
  rule_plain type_of (register f r) regular args start = register_plain (record { has_enable = takes_enable f; reset = r }) regular args start
  rule_plain type_of async_firreg regular args start = register_plain (record { has_enable = false; reset = sync_reset }) regular args start
  rule_plain type_of _ regular args start = ap (λ a. cond a true false) (one_plain o.results regular.type regular.one regular.scalar)

-- ---- wires taken out

-- an operation that is left has the results of one that was there
left_from : (i : ℕ) (r : Ref) (os : List Op) (x : Op) → In x (erase_op i r os) → (y : Op) × In y os × (x.results ≡ y.results)
left_from i r os x here =
    let from = from_In-map (retarget (without i (without i undefined r))) x (remove os i) here in
    (from.0, from_In-remove os i from.0 from.1, ap (λ (z : Op). z.results) from.2)

unwired_from : (i n : ℕ) (os : List Op) (x : Op) → In x (unwire i n os) → (y : Op) × In y os × (x.results ≡ y.results)
unwired_from i zero os x here = (x, here, refl)
unwired_from i (suc n) os x here =
    let later = unwired_from i n (erase_op i (operand_at i os) os) x here in
    let first = left_from i (operand_at i os) os later.0 later.1 in
    (first.0, first.1, later.2 ∙ first.2)

joined_from : (rules : Rules) (i : ℕ) (os body : List Op) (x : Op) → In x (without_joins rules i os body) → (y : Op) × In y body × (x.results ≡ y.results)
joined_from rules i [] body x here = (x, here, refl)
joined_from rules i (o ∷ os) body x here = go (only_joins o.kind) here (λ j body. joined_from rules j os body x)
  where
    go : (b : Bool) → In x (cond b (without_joins rules i os (unwire i (count_by rules o) body)) (without_joins rules (i + count_by rules o) os body))
        → ((j : ℕ) (rest : List Op) → In x (without_joins rules j os rest) → (y : Op) × In y rest × (x.results ≡ y.results))
        → (y : Op) × In y body × (x.results ≡ y.results)
    go false there rec = rec (i + count_by rules o) body there
    go true there rec =
        let later = rec i (unwire i (count_by rules o) body) there in
        let first = unwired_from i (count_by rules o) body later.0 later.1 in
        (first.0, first.1, later.2 ∙ first.2)

-- ---- designs

ports_plain : (ps : List Port) → ((q : Port) → In q ps → is_scalar q.type ≡ true) → has_aggregate_port ps ≡ false
ports_plain [] all = refl
ports_plain (q ∷ ps) all = ap₂ (λ a b. cond a b true) (all q (inl refl)) (ports_plain ps (λ p here. all p (inr here)))

results_plain : (os : List Op) → ((x : Op) → In x os → Plain x) → AllPlain os
results_plain [] all = refl
results_plain (o ∷ os) all = ap₂ (λ a b. cond a true b) (all o (inl refl)) (results_plain os (λ p here. all p (inr here)))

design_plain : (d : Design) → ((m : Module) → In m d → (has_aggregate_port m.ports ≡ false) × (has_aggregate_result m.body ≡ false)) → has_aggregates d ≡ false
design_plain [] all = refl
design_plain (m ∷ d) all =
    let first = all m (inl refl) in
    ap₂ (λ a b. cond a true b) (ap₂ (λ a b. cond a true b) first.0 first.1) (design_plain d (λ n here. all n (inr here)))

module _ (S : Lowering) where
  blocks_plain : (m : Module) → In m S.d → (os : List Op) → ((o : Op) → In o os → In o m.body) → (start : ℕ) → AllPlain (blocks (rules_of S) (parts_in S m) start os)
  blocks_plain m among [] within start = refl
  blocks_plain m among (o ∷ os) within start =
      let position = position_of_In m S.d among in
      let spot = position_of_In o m.body (within o (inl refl)) in
      plain_append ((rule_of S.named o o.kind).made (map (parts_in S m) o.operands) start) (blocks (rules_of S) (parts_in S m) (start + count_by (rules_of S) o) os)
      (rule_plain S.named o (old_type m) o.kind (regular_at S position.0 m position.1 spot.0 o spot.1) (map (parts_in S m) o.operands) start)
      (blocks_plain m among os (λ p here. within p (inr here)) (start + count_by (rules_of S) o))

  body_plain : (m : Module) → In m S.d → AllPlain (joined_module (rules_of S) m).body
  body_plain m among = results_plain (joined_module (rules_of S) m).body (λ x here.
      let from = joined_from (rules_of S) 0 m.body (new_body S m) x here in
      ap has_aggregate_type from.2 ∙ scalar_result (new_body S m) (blocks_plain m among m.body (λ o there. there) 0) from.0 from.1)

  -- a lowered design has no aggregates, where the leaves of ports have none
  pub lowered_plain : ((ps : List Port) (q : Port) → In q (S.split ps) → is_scalar q.type ≡ true) → has_aggregates (joined_design (rules_of S) S.d) ≡ false
  lowered_plain split = design_plain (joined_design (rules_of S) S.d) (λ n here.
      let from = from_In-map (joined_module (rules_of S)) n S.d here in
      subst (λ (y : Module). (has_aggregate_port y.ports ≡ false) × (has_aggregate_result y.body ≡ false)) (sym from.2)
      (ports_plain (S.split from.0.ports) (split from.0.ports), body_plain from.0 from.1))
