-- Each operation of a lowered module is good.
use Rattle.std.proofs.Common.{◌≡◌, ℕ, zero, suc, ◌+◌, ◌*◌, ◌-◌, ◌%◌, ◌^◌, ◌≤◌, ◌==◌, Bool, true, false, cond, ◌&&◌, List, [], ◌∷◌, ◌++◌, map, length, take, drop, flat_map, Option, Some, slice_get}
use Rattle.std.proofs.Common.{refl, sym, ap, ap₂, subst, ◌∙◌, inl, inr, arith}
use Rattle.std.proofs.lemmas.List.{take-append-drop}
use Rattle.std.proofs.lemmas.Grind.{flat_map-append}
use Rattle.wiring.specs.Wiring.{In}
use Rattle.wiring.proofs.Members.{In-slice_get, position_of_In, from_In-flat_map}
use Rattle.diag.specs.declared.cause.Cause.TheVariants as cause
use Rattle.hw_model.specs.Types.{Name, HwType, width, leaves}
use Rattle.hw_model.specs.Types.HwType.{int, array}
use Rattle.hw_model.specs.Kinds.{Kind, Instance, Literals, Reset, RegisterOp}
use Rattle.hw_model.specs.Kinds.Reset.{sync_reset}
use Rattle.hw_model.specs.Kinds.ArrayOp.{array_create, array_concat, array_get, array_slice, array_inject}
use Rattle.hw_model.specs.Kinds.StructOp.{struct_create, struct_extract, struct_inject, struct_explode}
use Rattle.hw_model.specs.Kinds.Kind.{mux, constant, aggregate_constant, on_array, on_struct, bitcast, wire, instance, output, register, async_firreg}
use Rattle.hw_model.specs.Value.{fields, nth_type}
use Rattle.hw_model.specs.Design.{Ref, Port, OpResult, Op, Module, find_module, instance_in, takes_enable, result_type}
use Rattle.hw_model.specs.Design.Ref.{result}
use Rattle.hw_model.specs.Sound.{input_types, output_types, register_types, Fits, OpFits}
use Rattle.type_inference.specs.ResultTypes.{first_type as first_written, result_type as type_of_result, result_types as settled_types, result_count}
use Rattle.stored_form.specs.Bytes.{Each, AreBytes}
use Rattle.stored_form.specs.Kinds.{KeepsConstants, IsWritten, IsWrittenInstance}
use Rattle.stored_form.specs.Limits.{IsAnyType}
use Rattle.op_checks.specs.TypeChecks.{has_bad_part, is_outside, has_clock_part, is_clock}
use Rattle.op_checks.specs.TypeLists.{known_types}
use Rattle.op_checks.specs.LimitChecks.{value_types, has_constant_outside}
use Rattle.op_checks.specs.CountChecks.{type_count}
use Rattle.std.specs.List.{list_any}
use Rattle.op_checks.specs.OwnChecks.{own_cause}
use Rattle.op_checks.proofs.Widths.{neither, bits_within}
use Rattle.op_checks.proofs.FitArrays.{has_bits}
use Rattle.op_checks.proofs.Fitting.{instance_types, output_types as output_written}
use Rattle.op_checks.proofs.Settled.{settles}
use Rattle.op_verifier.specs.Answers.{when}
use Rattle.op_verifier.specs.OpChecks.{has_again, has_undefined, settled_by, divides_by_constant, is_nonzero_ref}
use Rattle.op_verifier.proofs.NoCauseAlone.{no_cause_alone}
use Rattle.op_verifier.proofs.Unrefused.{or_none, when_none}
use Rattle.port_checks.proofs.Least.{found_module}
use Rattle.port_checks.specs.InstanceChecks.{port_names}
use Rattle.acceptance_laws.proofs.Accepted.{each_at}
use Rattle.acceptance_laws.proofs.Causes.{own_more}
use Rattle.acceptance_laws.proofs.FitBodies.{own_cause_none}
use Rattle.acceptance_laws.proofs.FitModules.{IsFitOp, fit_module}
use Rattle.aggregate_laws.specs.Leaves.{part, leaf_operands, leaves_of, result_types}
use Rattle.aggregate_laws.specs.Rules.{Rule, begin}
use Rattle.aggregate_laws.specs.OperationRules.{made_op, for_each, unnamed, all_leaves, joined_parts, argument, field_parts, with_field_parts, literals_numbers, literals_types, number_at, mux_rule}
use Rattle.aggregate_laws.specs.OperationRules.{constant_rule, stays_rule, register_rule, register_stays_rule, spread_rule, join_rule}
use Rattle.aggregate_laws.specs.Choices.{tests, test_at, leaf_choices, choice_rule, element_leaf, element_of, get_rule, slice_rule, array_inject_rule}
use Rattle.aggregate_laws.specs.Bitcasts.{bitcast_rule}
use Rattle.aggregate_laws.specs.Aggregates.{is_scalar, first_type, array_length, element_type, index_bits, own_names, rule_of, IsPlain, IsRegular}
use Rattle.aggregate_laws.proofs.Lists.{flat_map-map}
use Rattle.aggregate_laws.proofs.Bare.{type_listed, input_types_bare, output_types_bare}
use Rattle.aggregate_laws.proofs.Muxes.{three_operands, part_there, all_of_one}
use Rattle.aggregate_laws.proofs.Ports.{input_types_lowered, output_types_lowered}
use Rattle.aggregate_laws.proofs.Registers.{single}
use Rattle.aggregate_laws.proofs.Structs.{two_operands}
use Rattle.aggregate_laws.proofs.Types.{parts_typed}
use Rattle.aggregate_laws.proofs.Blocks.{block_by}
use Rattle.aggregate_acceptance.proofs.IndexBits.{at_least, at_most}
use Rattle.aggregate_acceptance.proofs.LeafTypes.{leaf_narrow, no_bad_part, IsNarrow}
use Rattle.aggregate_acceptance.proofs.LiteralNumbers.{number_in_range, number_kept, number_read}
use Rattle.aggregate_acceptance.proofs.NameBytes.{own_bytes}
use Rattle.aggregate_acceptance.proofs.Regular.{IsTyped, typed_op}
use Rattle.aggregate_acceptance.proofs.ResultValues.{none_member, may_have_leaves, written_value, result_value}
use Rattle.aggregate_acceptance.proofs.MadeOps.{IsGood, kept_good}
use Rattle.aggregate_acceptance.proofs.MadeRules.{AreGood, good_append, constant_kind, wires_good, muxes_good, constants_good, registers_good, asyncs_good, tests_good, leaf_choices_good}
use Rattle.aggregate_acceptance.proofs.CastRules.{some_bits, same_types, cast_good}
use Rattle.aggregate_laws.proofs.Scalars.{scalar_leaves}
use Rattle.aggregate_acceptance.proofs.SpreadRules.{scalars_typed, register_cause, async_cause, leaf_within, leaf_no_clock, parts_none, spread_op, instance_good, output_good}
use Rattle.aggregate_acceptance.proofs.LoweredModules.{Lowering, rules_of, parts_in, new_ports, new_body, old_type, new_type, regular_at, m_sound, new_sound, parts_typed_at, block_of, placed_at}
use Rattle.aggregate_acceptance.proofs.LoweredConstants.{nonzero_kept}

-- ---- types

-- the first of the written types
nth_first : (ts : List HwType) (t : HwType) → first_written ts ≡ Some t → nth_type ts 0 ≡ t
nth_first [] t is = cc
nth_first (u ∷ ts) t is = cc

first_member : (ts : List HwType) (t : HwType) → first_written ts ≡ Some t → In t ts
first_member [] t is = cc
first_member (u ∷ ts) t is = let same : t ≡ u = cc in inl same

-- a type that is written at a position, where it is no struct without fields
nth_member : (ts : List HwType) (n : ℕ) (t : HwType) → nth_type ts n ≡ t → (t ≡ nth_type [] n → ⊥) → In t ts
nth_member [] n t is not = absurd (not (sym is))
nth_member (u ∷ ts) zero t is not = inl (sym is)
nth_member (u ∷ ts) (suc n) t is not = inr (nth_member ts n t is (λ same. not (same ∙ empty n)))
  where
    empty : (n : ℕ) → nth_type [] n ≡ nth_type [] (suc n)
    empty n = refl

-- how many elements an array within the limits may have
few_elements : (n : ℕ) (t : HwType) → is_outside (array n t) ≡ false → has_bad_part t ≡ false → n ≤ 4096
few_elements n t within good =
    let bits : n * width t ≤ 4096 = bits_within (array n t) within in
    let some : 1 ≤ width t = has_bits t good in
    go (width t) some bits
  where
    go : (b : ℕ) → 1 ≤ b → n * b ≤ 4096 → n ≤ 4096
    go zero some bits = absurd (omega arith)
    go (suc b) some bits = grind arith

index_narrow : (n : ℕ) → n ≤ 4096 → IsNarrow (int (index_bits n))
index_narrow n few =
    let low : 1 ≤ index_bits n = at_least n 1 n in
    let high : index_bits n ≤ 12 = at_most n 1 n 12 (omega arith) (omega arith) in
    record { bits = index_bits n; is = refl; within = some_width (index_bits n) low high }
  where
    some_width : (w : ℕ) → 1 ≤ w → w ≤ 12 → has_bad_part (int w) ≡ false
    some_width w low high = some_bits w low (omega arith)

names_bytes : (way : Bool) (ps : List Port) → ((q : Port) → In q ps → AreBytes q.name) → Each AreBytes (port_names way ps)
names_bytes true [] all = tt
names_bytes false [] all = tt
names_bytes true (q ∷ ps) all = go q.is_output (all q (inl refl)) (names_bytes true ps (λ p here. all p (inr here)))
  where
    go : (b : Bool) → AreBytes q.name → Each AreBytes (port_names true ps) → Each AreBytes (cond b (q.name ∷ port_names true ps) (port_names true ps))
    go true first rest = (first, rest)
    go false first rest = rest
names_bytes false (q ∷ ps) all = go q.is_output (all q (inl refl)) (names_bytes false ps (λ p here. all p (inr here)))
  where
    go : (b : Bool) → AreBytes q.name → Each AreBytes (port_names false ps) → Each AreBytes (cond b (port_names false ps) (q.name ∷ port_names false ps))
    go true first rest = rest
    go false first rest = (first, rest)

pub input_names : (ps : List Port) → length (port_names false ps) ≡ length (input_types ps)
input_names [] = refl
input_names (q ∷ ps) = go q.is_output (input_names ps)
  where
    go : (b : Bool) → length (port_names false ps) ≡ length (input_types ps) → length (cond b (port_names false ps) (q.name ∷ port_names false ps)) ≡ length (cond b (input_types ps) (q.type ∷ input_types ps))
    go true rest = rest
    go false rest = ap suc rest

output_names : (ps : List Port) → length (port_names true ps) ≡ length (output_types ps)
output_names [] = refl
output_names (q ∷ ps) = go q.is_output (output_names ps)
  where
    go : (b : Bool) → length (port_names true ps) ≡ length (output_types ps) → length (cond b (q.name ∷ port_names true ps) (port_names true ps)) ≡ length (cond b (q.type ∷ output_types ps) (output_types ps))
    go true rest = ap suc rest
    go false rest = rest

first_nth : (ts : List HwType) → 1 ≤ length ts → In (nth_type ts 0) ts
first_nth [] some = absurd (omega arith)
first_nth (t ∷ ts) some = inl refl

among_types : (ts : List HwType) (i : ℕ) (t : HwType) → slice_get ts i ≡ Some t → In t ts
among_types ts i t is = In-slice_get t ts i is

module _ (S : Lowering) (k : ℕ) (m : Module) (at : slice_get S.d k ≡ Some m) (j : ℕ) (o : Op) (is : slice_get m.body j ≡ Some o) where
  was : IsFitOp S.d m o
  was = (fit_module S.d S.fit k m at).ops o (In-slice_get o m.body j is)

  typed : IsTyped S.d S.fit k m at o
  typed = typed_op S.d S.fit k m at j o is

  again : has_again o.results ≡ false
  again =
      when_none (has_again o.results) cause.Redefined
      (or_none (when (has_again o.results) cause.Redefined) (when (has_undefined m.ports m.body o.operands) cause.Undefined) was.fits.values).0

  pub settled : settled_by o ≡ known_types (result_types o)
  settled = settles o.kind o.types (result_types o) (no_cause_alone m.ports m.body o (own_cause_none S.d S.fit k m at j o is))

  abbrev args : List (List Ref)
  args = map (parts_in S m) o.operands

  abbrev start : ℕ
  start = begin (rules_of S) m.body j

  -- what a rule makes is good where it fits
  abbrev BlockGood : Rule → Type 0
  BlockGood rule = AreGood (new_ports S m) (new_body S m) (rule.made args start)

  -- and stands in the new body
  abbrev PlacedRule : Rule → Type 0
  PlacedRule rule = (i : ℕ) (x : Op) → slice_get (rule.made args start) i ≡ Some x → new_type S m (result (start + i) 0) ≡ result_type x 0

  pub joined : joined_parts args ≡ flat_map (parts_in S m) o.operands
  joined = flat_map-map (λ (rs : List Ref). rs) (parts_in S m) o.operands

  by_cond : (b : Bool) (left right : Rule) → (b ≡ true → BlockGood left) → BlockGood right → BlockGood (cond b left right)
  by_cond true left right first second = first refl
  by_cond false left right first second = second

  by_cond_placed : (b : Bool) (left right : Rule) → PlacedRule (cond b left right) → (b ≡ true → BlockGood left) → (PlacedRule right → BlockGood right) → BlockGood (cond b left right)
  by_cond_placed true left right placed first second = first refl
  by_cond_placed false left right placed first second = second placed

  -- ---- what stays

  -- a known divisor is known still
  divisor_kept : (rs : List Ref) (us : List HwType) → map (old_type m) rs ≡ known_types us → ((u : HwType) → In u us → is_scalar u ≡ true)
      → divides_by_constant m.body rs ≡ true → divides_by_constant (new_body S m) (flat_map (parts_in S m) rs) ≡ true
  divisor_kept [] us given scalars h = cc
  divisor_kept (r ∷ []) us given scalars h = cc
  divisor_kept (r ∷ q ∷ rs) [] given scalars h = cc
  divisor_kept (r ∷ q ∷ rs) (u ∷ []) given scalars h = cc
  divisor_kept (r ∷ q ∷ rs) (u ∷ v ∷ us) given scalars h =
      let first = one_part r u (cc) (scalars u (inl refl)) in
      let second = one_part q v (cc) (scalars v (inr (inl refl))) in
      ap₂ (λ xs ys. is_nonzero_ref (new_body S m) (slice_get (xs ++ (ys ++ flat_map (parts_in S m) rs)) 1)) first.1 second.1
      ∙ nonzero_kept S k m at q second.0 h (subst (In second.0) (sym second.1) (inl refl))
    where
      one_part : (x : Ref) (t : HwType) → old_type m x ≡ Some t → is_scalar t ≡ true → (y : Ref) × (parts_in S m x ≡ y ∷ [])
      one_part x t here scalar =
          single (new_type S m) (parts_in S m x) (Some t) (parts_typed_at S k m at x t here ∙ ap (map (λ (u : HwType). Some u)) (scalar_leaves t scalar))

  stay : ((u : HwType) → In u typed.us → is_scalar u ≡ true) → BlockGood (stays_rule o)
  stay scalars x (inr never) fits = absurd never
  stay scalars x (inl same) fits =
      subst (IsGood (new_ports S m) (new_body S m)) (sym same)
      (kept_good m.ports (new_ports S m) m.body (new_body S m) o (joined_parts args) typed.us was.fits.printable again settled typed.operands
      (ap (map (new_type S m)) joined ∙ scalars_typed (old_type m) (new_type S m) (parts_in S m) (parts_typed_at S k m at) o.operands typed.us typed.operands scalars)
      (own_more o.kind o.types (result_types o) o.named (known_types typed.us) (divides_by_constant m.body o.operands) (divides_by_constant (new_body S m) (joined_parts args))
      (λ h. ap (divides_by_constant (new_body S m)) joined ∙ divisor_kept o.operands typed.us typed.operands scalars h) typed.alone))

  -- where the types of its operands are some that have no parts
  stay_typed : (us : List HwType) → map (old_type m) o.operands ≡ known_types us → ((u : HwType) → In u us → is_scalar u ≡ true) → BlockGood (stays_rule o)
  stay_typed us given scalars =
      stay (λ u here. scalars u (subst (In u) (same_types typed.us us (sym typed.operands ∙ given)) here))

  stay_plain : IsPlain (old_type m) o → BlockGood (stays_rule o)
  stay_plain plain = stay_typed plain.operand_types plain.operands plain.scalars

  -- ---- results

  first_result : (t : HwType) → result_types o ≡ t ∷ [] → result_type o 0 ≡ Some t
  first_result t one = type_listed o 0 ∙ ap (λ ts. slice_get ts 0) one

  first_is : (t : HwType) → result_types o ≡ t ∷ [] → first_type o ≡ t
  first_is t one = ap (λ ts. nth_type ts 0) one

  fits_old : (t : HwType) → result_types o ≡ t ∷ [] → Fits o.kind o.types (map (old_type m) o.operands) t 0
  fits_old t one = (m_sound S k m at).ops j o is 0 t (first_result t one)

  narrow : may_have_leaves o.kind ≡ true → (u : HwType) → In u (all_leaves o) → IsNarrow u
  narrow may u here =
      let from = from_In-flat_map leaves u (result_types o) here in
      leaf_narrow from.0 (result_value o.kind o.types (result_types o) may typed.none from.0 from.1) u from.2

  -- the type of a register or a wire is written
  readable_first : (t : HwType) → result_types o ≡ t ∷ [] → first_written o.types ∷ [] ≡ known_types (result_types o) → IsAnyType (first_type o)
  readable_first t one written =
      let only : first_written o.types ∷ [] ≡ Some t ∷ [] = written ∙ ap known_types one in
      let first : first_written o.types ≡ Some t = cc in
      let spot = position_of_In t o.types (first_member o.types t first) in
      subst IsAnyType (sym (first_is t one)) (each_at IsAnyType o.types spot.0 t was.fits.printable.readable spot.1)

  -- ---- wires, multiplexers, constants

  wires : (names : ℕ → Name) (chosen : List Ref) → may_have_leaves o.kind ≡ true → ((i : ℕ) → AreBytes (names i))
      → AreGood (new_ports S m) (new_body S m) (for_each (λ i t. made_op o wire (part chosen i ∷ []) (t ∷ []) (names i) t) 0 (all_leaves o))
  wires names chosen may bytes = wires_good (new_ports S m) (new_body S m) o names chosen (all_leaves o) (narrow may) bytes

  mux_block : o.kind ≡ mux → (t : HwType) → result_types o ≡ t ∷ [] → BlockGood (cond (is_scalar (first_type o)) (stays_rule o) (mux_rule o))
  mux_block kind t one =
      by_cond (is_scalar (first_type o)) (stays_rule o) (mux_rule o)
      (λ scalar. stay_typed (int 1 ∷ t ∷ t ∷ []) (subst (λ kd. Fits kd o.types (map (old_type m) o.operands) t 0) kind (fits_old t one)) (among (ap is_scalar (sym (first_is t one)) ∙ scalar)))
      (muxes_good (new_ports S m) (new_body S m) o (λ i. part (argument 0 args) 0) (λ i. part (argument 1 args) i) (λ i. part (argument 2 args) i) (all_leaves o)
      (narrow (ap may_have_leaves kind)))
    where
      among : is_scalar t ≡ true → (u : HwType) → In u (int 1 ∷ t ∷ t ∷ []) → is_scalar u ≡ true
      among scalar u (inl same) = ap is_scalar same
      among scalar u (inr (inl same)) = ap is_scalar same ∙ scalar
      among scalar u (inr (inr (inl same))) = ap is_scalar same ∙ scalar
      among scalar u (inr (inr (inr never))) = absurd never

  only_scalar : (t : HwType) → is_scalar t ≡ true → (u : HwType) → In u (t ∷ []) → is_scalar u ≡ true
  only_scalar t scalar u (inl same) = ap is_scalar same ∙ scalar
  only_scalar t scalar u (inr never) = absurd never

  wire_block : o.kind ≡ wire → (t : HwType) → result_types o ≡ t ∷ [] → BlockGood (cond (is_scalar (first_type o)) (stays_rule o) (join_rule o (own_names o)))
  unfolding settled_types type_of_result
  wire_block kind t one =
      by_cond (is_scalar (first_type o)) (stays_rule o) (join_rule o (own_names o))
      (λ scalar. stay_typed (t ∷ []) (subst (λ kd. Fits kd o.types (map (old_type m) o.operands) t 0) kind (fits_old t one)) (only_scalar t (ap is_scalar (sym (first_is t one)) ∙ scalar)))
      (wires (own_names o) (joined_parts args) (ap may_have_leaves kind)
      (own_bytes o was.fits.printable.name (readable_first t one (ap (λ kd. settled_types kd o.types (length o.operands)) (sym kind) ∙ settled))))

  constant_block : (ls : Literals) → o.kind ≡ aggregate_constant ls → (t : HwType) → result_types o ≡ t ∷ [] → literals_types ls ≡ leaves t → BlockGood (constant_rule o ls)
  unfolding has_constant_outside
  constant_block ls kind t one shape =
      constants_good (new_ports S m) (new_body S m) o (number_at (literals_numbers ls)) (all_leaves o)
      (λ i u at_u.
      let there : slice_get (literals_types ls) i ≡ Some u = ap (λ ts. slice_get ts i) (shape ∙ sym (all_of_one o t one)) ∙ at_u in
      constant_kind u (number_at (literals_numbers ls) i) (narrow (ap may_have_leaves kind) u (In-slice_get u (all_leaves o) i at_u))
      (number_in_range ls (ap (λ kd. has_constant_outside kd o.types) (sym kind) ∙ typed.none.constant) i u there)
      (number_kept ls (subst (λ kd. KeepsConstants kd o.types) kind was.fits.printable.kept) i u there)
      (number_read ls 31 (subst IsWritten kind was.fits.printable.written) i u there))

  -- ---- bitcasts

  cast_block : o.kind ≡ bitcast → (u t : HwType) → result_types o ≡ t ∷ [] → map (old_type m) o.operands ≡ Some u ∷ [] → nth_type o.types 0 ≡ u
      → PlacedRule (cond (is_scalar (first_type o) && is_scalar (nth_type o.types 0)) (stays_rule o) (bitcast_rule o (nth_type o.types 0)))
      → BlockGood (cond (is_scalar (first_type o) && is_scalar (nth_type o.types 0)) (stays_rule o) (bitcast_rule o (nth_type o.types 0)))
  unfolding type_count
  cast_block kind u t one given written placed =
      by_cond_placed (is_scalar (first_type o) && is_scalar (nth_type o.types 0)) (stays_rule o) (bitcast_rule o (nth_type o.types 0)) placed
      (λ scalars. stay_typed (u ∷ []) given (only_scalar u (ap is_scalar (sym written) ∙ second (is_scalar (first_type o)) (is_scalar (nth_type o.types 0)) scalars)))
      (λ here. cast_good (new_ports S m) (new_body S m) o (argument 0 args) (leaves (nth_type o.types 0)) operand_typed leaves_narrow 0 start (all_leaves o) (narrow (ap may_have_leaves kind)) here)
    where
      second : (a b : Bool) → (a && b) ≡ true → b ≡ true
      second true b both = both
      second false b both = cc

      operand : (r : Ref) × (o.operands ≡ r ∷ [])
      operand = single (old_type m) o.operands (Some u) given

      operand_type : old_type m operand.0 ≡ Some u
      operand_type = let same : old_type m operand.0 ∷ [] ≡ Some u ∷ [] = ap (map (old_type m)) (sym operand.1) ∙ given in cc

      operand_typed : map (new_type S m) (argument 0 args) ≡ known_types (leaves (nth_type o.types 0))
      operand_typed =
          ap (λ rs. map (new_type S m) (argument 0 (map (parts_in S m) rs))) operand.1 ∙ parts_typed_at S k m at operand.0 u operand_type
          ∙ ap (λ v. known_types (leaves v)) (sym written)

      two_types : length o.types ≡ 2
      two_types = typed.none.types ∙ ap (λ kd. type_count kd (length typed.us)) kind

      leaves_narrow : (v : HwType) → In v (leaves (nth_type o.types 0)) → IsNarrow v
      leaves_narrow v here =
          leaf_narrow (nth_type o.types 0)
          (written_value o.kind o.types (result_types o) (ap may_have_leaves kind) typed.none (nth_type o.types 0) (first_nth o.types (omega (arith, two_types)))) v here

  -- ---- what an index chooses

  choice_block : (n w : ℕ) (sizes : ℕ → ℕ) (element : List Ref → ℕ → ℕ → Ref) → may_have_leaves o.kind ≡ true → IsNarrow (int w)
      → new_type S m (part (argument 1 args) 0) ≡ Some (int w) → n ≤ 2 ^ w → BlockGood (choice_rule o n w sizes element)
  choice_block n w sizes element may index index_typed room =
      good_append (new_ports S m) (new_body S m) (tests o w (part (argument 1 args) 0) start 0 n)
      (leaf_choices o (test_at start) (element (argument 0 args)) sizes (start + 2 * n) 0 (all_leaves o))
      (tests_good (new_ports S m) (new_body S m) o w (part (argument 1 args) 0) start 0 n index index_typed (omega arith))
      (leaf_choices_good (new_ports S m) (new_body S m) o (test_at start) (element (argument 0 args)) sizes (start + 2 * n) 0 (all_leaves o) (narrow may))

  -- the index
  second_typed : (a : HwType) (w : ℕ) → map (old_type m) o.operands ≡ Some a ∷ Some (int w) ∷ [] → new_type S m (part (argument 1 args) 0) ≡ Some (int w)
  second_typed a w given =
      let ops = two_operands (old_type m) o.operands (Some a) (Some (int w)) given in
      ap (λ rs. new_type S m (part (argument 1 (map (parts_in S m) rs)) 0)) ops.2
      ∙ (part_there (new_type S m) (parts_in S m ops.1) (int w ∷ []) 0 (int w) (parts_typed_at S k m at ops.1 (int w) ops.4) refl).1

  written_narrow : may_have_leaves o.kind ≡ true → (w : ℕ) → In (int w) o.types → IsNarrow (int w)
  written_narrow may w here = record { bits = w; is = refl; within = (written_value o.kind o.types (result_types o) may typed.none (int w) here).parts }

  get_block : o.kind ≡ on_array array_get → (n w : ℕ) (t : HwType) → map (old_type m) o.operands ≡ Some (array n t) ∷ Some (int w) ∷ []
      → nth_type o.types 0 ≡ array n t → nth_type o.types 1 ≡ int w → n ≤ 2 ^ w → BlockGood (get_rule o (array_length (nth_type o.types 0)) (width (nth_type o.types 1)))
  get_block kind n w t given first second room =
      subst (λ a. BlockGood (get_rule o (array_length a) (width (nth_type o.types 1)))) (sym first)
      (subst (λ b. BlockGood (get_rule o n (width b))) (sym second)
      (choice_block n w (λ l. n) (element_leaf n (length (all_leaves o))) (ap may_have_leaves kind)
      (written_narrow (ap may_have_leaves kind) w (nth_member o.types 1 (int w) second (λ same. cc))) (second_typed (array n t) w given) room))

  slice_block : o.kind ≡ on_array array_slice → (n : ℕ) (e : HwType) → map (old_type m) o.operands ≡ Some (array n e) ∷ Some (int (index_bits n)) ∷ []
      → nth_type o.types 0 ≡ array n e → n ≤ 2 ^ index_bits n
      → BlockGood (slice_rule o (array_length (nth_type o.types 0)) (array_length (first_type o)) (length (leaves (element_type (nth_type o.types 0)))) (index_bits (array_length (nth_type o.types 0))))
  slice_block kind n e given first room =
      subst (λ a. BlockGood (slice_rule o (array_length a) (array_length (first_type o)) (length (leaves (element_type a))) (index_bits (array_length a)))) (sym first)
      (choice_block n (index_bits n) (λ l. n - element_of (array_length (first_type o)) (length (leaves e)) l)
      (λ rs l i. element_leaf n (length (leaves e)) rs (l % length (leaves e)) (i + element_of (array_length (first_type o)) (length (leaves e)) l)) (ap may_have_leaves kind)
      (index_narrow n few) (second_typed (array n e) (index_bits n) given) room)
    where
      among : In (array n e) o.types
      among = nth_member o.types 0 (array n e) first (λ same. cc)

      few : n ≤ 4096
      few =
          few_elements n e (none_member is_outside o.types (array n e) typed.none.written among)
          (neither (n == 0) (has_bad_part e) (no_bad_part (array n e) (none_member is_outside o.types (array n e) typed.none.written among))).1

  put_block : o.kind ≡ on_array array_inject → (n w : ℕ) (e : HwType) → map (old_type m) o.operands ≡ Some (array n e) ∷ Some (int w) ∷ Some e ∷ []
      → nth_type o.types 0 ≡ array n e → nth_type o.types 1 ≡ int w → n ≤ 2 ^ w
      → BlockGood (array_inject_rule o (array_length (nth_type o.types 0)) (length (leaves (element_type (nth_type o.types 0)))) (width (nth_type o.types 1)))
  put_block kind n w e given first second room =
      subst (λ a. BlockGood (array_inject_rule o (array_length a) (length (leaves (element_type a))) (width (nth_type o.types 1)))) (sym first)
      (subst (λ b. BlockGood (array_inject_rule o n (length (leaves e)) (width b))) (sym second)
      (good_append (new_ports S m) (new_body S m) (tests o w (part (argument 1 args) 0) start 0 n)
      (for_each (λ l t. made_op o mux (test_at start (element_of n (length (leaves e)) l) ∷ part (argument 2 args) (l % length (leaves e)) ∷ part (argument 0 args) l ∷ []) (t ∷ []) [] t) 0 (all_leaves o))
      (tests_good (new_ports S m) (new_body S m) o w (part (argument 1 args) 0) start 0 n
      (written_narrow (ap may_have_leaves kind) w (nth_member o.types 1 (int w) second (λ same. cc))) index_typed (omega arith))
      (muxes_good (new_ports S m) (new_body S m) o (λ l. test_at start (element_of n (length (leaves e)) l)) (λ l. part (argument 2 args) (l % length (leaves e)))
      (λ l. part (argument 0 args) l) (all_leaves o) (narrow (ap may_have_leaves kind)))))
    where
      ops : (a : Ref) × (i : Ref) × (v : Ref) × (o.operands ≡ a ∷ i ∷ v ∷ []) × (old_type m a ≡ Some (array n e)) × (old_type m i ≡ Some (int w)) × (old_type m v ≡ Some e)
      ops = three_operands (old_type m) o.operands (Some (array n e)) (Some (int w)) (Some e) given

      index_typed : new_type S m (part (argument 1 args) 0) ≡ Some (int w)
      index_typed =
          ap (λ rs. new_type S m (part (argument 1 (map (parts_in S m) rs)) 0)) ops.3
          ∙ (part_there (new_type S m) (parts_in S m ops.1) (int w ∷ []) 0 (int w) (parts_typed_at S k m at ops.1 (int w) ops.5) refl).1

  -- ---- registers

  pub same_leaves : (t : HwType) → result_types o ≡ t ∷ [] → leaves_of (result_type o 0) ≡ all_leaves o
  same_leaves t one = ap leaves_of (first_result t one) ∙ sym (all_of_one o t one)

  register_narrow : may_have_leaves o.kind ≡ true → (t : HwType) → result_types o ≡ t ∷ [] → (u : HwType) → In u (leaves_of (result_type o 0)) → IsNarrow u
  register_narrow may t one u here = narrow may u (subst (In u) (same_leaves t one) here)

  -- a register without parts
  register_stay : (e : Bool) (r : Reset) (t : HwType) → result_types o ≡ t ∷ []
      → ((xs : List (Option HwType)) → Fits o.kind o.types xs t 0 → xs ≡ register_types e r t)
      → ((n n' : Bool) → own_cause o.kind o.types (result_types o) o.named (known_types typed.us) n ≡ own_cause o.kind o.types (result_types o) o.named (known_types typed.us) n')
      → BlockGood (register_stays_rule o (record { has_enable = e; reset = r }))
  register_stay e r t one fits_as steady x (inr never) fits = absurd never
  register_stay e r t one fits_as steady x (inl same) fits =
      subst (IsGood (new_ports S m) (new_body S m)) (sym same)
      (kept_good m.ports (new_ports S m) m.body (new_body S m) o (leaf_operands e r args 0) typed.us was.fits.printable again settled typed.operands
      (fits_as (map (new_type S m) (leaf_operands e r args 0))
      (subst (OpFits (new_type S m)) same fits 0 t (first_result t one)) ∙ sym (fits_as (map (old_type m) o.operands) (fits_old t one)) ∙ typed.operands)
      (steady (divides_by_constant (new_body S m) (leaf_operands e r args 0)) (divides_by_constant m.body o.operands) ∙ typed.alone))

  register_block : (f : RegisterOp) (r : Reset) → o.kind ≡ register f r → (t : HwType) → result_types o ≡ t ∷ []
      → BlockGood (cond (is_scalar (first_type o)) (register_stays_rule o (record { has_enable = takes_enable f; reset = r })) (register_rule o (record { has_enable = takes_enable f; reset = r }) (own_names o)))
  unfolding settled_types type_of_result
  register_block f r kind t one =
      by_cond (is_scalar (first_type o)) (register_stays_rule o (record { has_enable = takes_enable f; reset = r })) (register_rule o (record { has_enable = takes_enable f; reset = r }) (own_names o))
      (λ scalar.
      register_stay (takes_enable f) r t one (λ xs h. subst (λ kd. Fits kd o.types xs t 0) kind h)
      (λ n n'. subst (λ kd. own_cause kd o.types (result_types o) o.named (known_types typed.us) n ≡ own_cause kd o.types (result_types o) o.named (known_types typed.us) n') (sym kind)
      (register_cause f r o.types (result_types o) o.named (known_types typed.us) n n')))
      (registers_good (new_ports S m) (new_body S m) o f r (leaf_operands (takes_enable f) r args) (own_names o) (leaves_of (result_type o 0)) kind
      (register_narrow (ap may_have_leaves kind) t one)
      (own_bytes o was.fits.printable.name (readable_first t one (ap (λ kd. settled_types kd o.types (length o.operands)) (sym kind) ∙ settled))))

  async_block : o.kind ≡ async_firreg → (t : HwType) → result_types o ≡ t ∷ []
      → BlockGood (cond (is_scalar (first_type o)) (register_stays_rule o (record { has_enable = false; reset = sync_reset })) (register_rule o (record { has_enable = false; reset = sync_reset }) (own_names o)))
  unfolding settled_types type_of_result
  async_block kind t one =
      by_cond (is_scalar (first_type o)) (register_stays_rule o (record { has_enable = false; reset = sync_reset })) (register_rule o (record { has_enable = false; reset = sync_reset }) (own_names o))
      (λ scalar.
      register_stay false sync_reset t one (λ xs h. subst (λ kd. Fits kd o.types xs t 0) kind h)
      (λ n n'. subst (λ kd. own_cause kd o.types (result_types o) o.named (known_types typed.us) n ≡ own_cause kd o.types (result_types o) o.named (known_types typed.us) n') (sym kind)
      (async_cause o.types (result_types o) o.named (known_types typed.us) n n')))
      (asyncs_good (new_ports S m) (new_body S m) o (leaf_operands false sync_reset args) (own_names o) (leaves_of (result_type o 0)) kind
      (register_narrow (ap may_have_leaves kind) t one)
      (own_bytes o was.fits.printable.name (readable_first t one (ap (λ kd. settled_types kd o.types (length o.operands)) (sym kind) ∙ settled))))

  -- ---- instances and outputs

  spread_typed : map (new_type S m) (joined_parts args) ≡ known_types (flat_map leaves typed.us)
  spread_typed = ap (map (new_type S m)) joined ∙ parts_typed (old_type m) (new_type S m) (parts_in S m) (parts_typed_at S k m at) o.operands typed.us typed.operands

  -- an instance, its module and the one with the leaves of that one's ports
  module _ (i : Instance) (kind : o.kind ≡ instance i) where
    pub called : (c : Module) × (find_module S.d i.symbol ≡ Some c) × (map (old_type m) o.operands ≡ map (λ (t : HwType). Some t) (input_types c.ports))
        × (map (λ (r : OpResult). r.type) o.results ≡ output_types c.ports)
    called = (m_sound S k m at).instances j o is i (ap instance_in kind)

    abbrev pub called_module : Module
    called_module = called.0

    pub called_found : find_module S.d i.symbol ≡ Some called_module
    called_found = called.1

    abbrev pub leaf_instance : Instance
    leaf_instance = record i { inputs = port_names false (S.split called_module.ports); outputs = port_names true (S.split called_module.ports) }

    pub named_leaves : S.named o ≡ instance leaf_instance
    named_leaves = S.instances o i called_module kind called.1

    us_are : typed.us ≡ input_types called_module.ports
    us_are = same_types typed.us (input_types called_module.ports) (sym typed.operands ∙ called.2)

    both : (typed.us ≡ take (length i.inputs) o.types) × (result_types o ≡ drop (length i.inputs) o.types)
    both =
        instance_types i o.types (result_types o) o.named typed.us (divides_by_constant m.body o.operands)
        (ap (λ kd. own_cause kd o.types (result_types o) o.named (known_types typed.us) (divides_by_constant m.body o.operands)) (sym kind) ∙ typed.alone)

    written_types : o.types ≡ typed.us ++ result_types o
    written_types = sym (take-append-drop (length i.inputs) o.types) ∙ ap₂ (λ xs ys. xs ++ ys) (sym both.0) (sym both.1)

    leaf_types : flat_map leaves o.types ≡ flat_map leaves typed.us ++ flat_map leaves (result_types o)
    leaf_types = ap (flat_map leaves) written_types ∙ flat_map-append leaves typed.us (result_types o)

    inputs_are : input_types (S.split called_module.ports) ≡ flat_map leaves typed.us
    inputs_are =
        sym (input_types_bare (S.split called_module.ports)) ∙ ap input_types (S.ports.leaves_are called_module.ports) ∙ input_types_lowered called_module.ports
        ∙ ap (flat_map leaves) (sym us_are)

    outputs_are : output_types (S.split called_module.ports) ≡ flat_map leaves (result_types o)
    outputs_are =
        sym (output_types_bare (S.split called_module.ports)) ∙ ap output_types (S.ports.leaves_are called_module.ports) ∙ output_types_lowered called_module.ports
        ∙ ap (flat_map leaves) (sym called.3)

    -- its written types are those of its module's ports
    pub types_are_ports : flat_map leaves o.types ≡ input_types (S.split called_module.ports) ++ output_types (S.split called_module.ports)
    types_are_ports = leaf_types ∙ ap₂ (λ xs ys. xs ++ ys) (sym inputs_are) (sym outputs_are)

    leaf_inputs : length leaf_instance.inputs ≡ length (flat_map leaves typed.us)
    leaf_inputs = input_names (S.split called_module.ports) ∙ ap length inputs_are

    leaf_outputs : length leaf_instance.outputs ≡ length (flat_map leaves (result_types o))
    leaf_outputs = output_names (S.split called_module.ports) ∙ ap length outputs_are

    leaves_within : (u : HwType) → In u (flat_map leaves typed.us ++ flat_map leaves (result_types o)) → (is_scalar u ≡ true) × (has_bad_part u ≡ false)
    leaves_within u here = leaf_within o.types typed.none.written u (subst (In u) (sym leaf_types) here)

    no_clocks : list_any is_clock (flat_map leaves (result_types o)) ≡ false
    no_clocks =
        leaf_no_clock (result_types o)
        (ap (list_any is_clock) both.1 ∙ ap (λ kd. list_any is_clock (value_types kd o.types)) (sym kind) ∙ typed.none.clock_type)
        (parts_none typed.us (result_types o) (ap (list_any has_clock_part) (sym written_types) ∙ typed.none.clock_part))

    leaf_written : IsWrittenInstance leaf_instance
    leaf_written =
        let old : IsWrittenInstance i = subst IsWritten kind was.fits.printable.written in
        let here = found_module S.d i.symbol called_module called.1 in
        let spot = position_of_In called_module S.d here in
        let printed = (fit_module S.d S.fit spot.0 called_module spot.1).ports in
        record {
          name = old.name;
          inner = old.inner;
          symbol = old.symbol;
          inputs = names_bytes false (S.split called_module.ports) (λ q among. S.ports.bytes called_module q here printed among);
          outputs = names_bytes true (S.split called_module.ports) (λ q among. S.ports.bytes called_module q here printed among);
        }

    instance_block : BlockGood (spread_rule o (S.named o))
    instance_block x (inr never) fits = absurd never
    instance_block x (inl same) fits =
        subst (IsGood (new_ports S m) (new_body S m)) (sym same)
        (subst (λ kd. IsGood (new_ports S m) (new_body S m) (spread_op o kd (joined_parts args))) (sym named_leaves)
        (instance_good leaf_instance (flat_map leaves typed.us) (flat_map leaves (result_types o)) leaf_inputs leaf_outputs leaves_within no_clocks m.ports (new_ports S m) m.body
        (new_body S m) o i (joined_parts args) kind was.fits.printable leaf_written spread_typed leaf_types refl))

  output_block : o.kind ≡ output → BlockGood (spread_rule o output)
  unfolding result_count
  output_block kind x (inr never) fits = absurd never
  output_block kind x (inl same) fits =
      subst (IsGood (new_ports S m) (new_body S m)) (sym same)
      (output_good (flat_map leaves typed.us) within clocks m.ports (new_ports S m) m.body (new_body S m) o (joined_parts args) kind was.fits.printable spread_typed
      (ap (flat_map leaves) (sym us_are)) (ap (flat_map leaves) none))
    where
      us_are : typed.us ≡ o.types
      us_are =
          output_written o.types (result_types o) o.named typed.us (divides_by_constant m.body o.operands)
          (ap (λ kd. own_cause kd o.types (result_types o) o.named (known_types typed.us) (divides_by_constant m.body o.operands)) (sym kind) ∙ typed.alone)

      none : result_types o ≡ []
      none = empty (result_types o) (typed.none.results ∙ ap (λ kd. result_count kd o.types) kind)
        where
          empty : (ts : List HwType) → length ts ≡ 0 → ts ≡ []
          empty [] size = refl
          empty (t ∷ ts) size = absurd (omega arith)

      within : (u : HwType) → In u (flat_map leaves typed.us) → (is_scalar u ≡ true) × (has_bad_part u ≡ false)
      within u here = leaf_within o.types typed.none.written u (subst (λ ts. In u (flat_map leaves ts)) us_are here)

      clocks : list_any is_clock (flat_map leaves typed.us) ≡ false
      clocks =
          ap (λ ts. list_any is_clock (flat_map leaves ts)) us_are
          ∙ leaf_no_clock o.types (ap (λ kd. list_any is_clock (value_types kd o.types)) (sym kind) ∙ typed.none.clock_type) typed.none.clock_part

  -- ---- all kinds

  block_kind : (kind : Kind) → o.kind ≡ kind → IsRegular S.named (old_type m) o kind → PlacedRule (rule_of S.named o kind) → BlockGood (rule_of S.named o kind)
  block_kind mux same (t, one) placed = mux_block same t one
  block_kind wire same (t, one) placed = wire_block same t one
  block_kind bitcast same (u, t, one, given, written, equal) placed = cast_block same u t one given written placed
  block_kind (aggregate_constant ls) same (t, one, shape) placed = constant_block ls same t one shape
  block_kind (on_array array_create) same regular placed = wires unnamed (joined_parts args) (ap may_have_leaves same) (λ i. tt)
  block_kind (on_array array_concat) same regular placed = wires unnamed (joined_parts args) (ap may_have_leaves same) (λ i. tt)
  block_kind (on_array array_get) same (n, w, t, one, given, first, second, room) placed = get_block same n w t given first second room
  block_kind (on_array array_slice) same (n, c, e, one, given, first, room) placed = slice_block same n e given first room
  block_kind (on_array array_inject) same (n, w, e, one, given, first, second, room) placed = put_block same n w e given first second room
  block_kind (on_struct struct_create) same regular placed = wires unnamed (joined_parts args) (ap may_have_leaves same) (λ i. tt)
  block_kind (on_struct (struct_extract name)) same regular placed =
      wires unnamed (field_parts (fields (nth_type o.types 0)) name (argument 0 args)) (ap may_have_leaves same) (λ i. tt)
  block_kind (on_struct (struct_inject name)) same regular placed =
      wires unnamed (with_field_parts (fields (nth_type o.types 0)) name (argument 0 args) (argument 1 args)) (ap may_have_leaves same) (λ i. tt)
  block_kind (on_struct struct_explode) same regular placed = wires unnamed (joined_parts args) (ap may_have_leaves same) (λ i. tt)
  block_kind (instance i) same regular placed = instance_block i same
  block_kind output same regular placed = output_block same
  block_kind (register f r) same (t, one) placed = register_block f r same t one
  block_kind async_firreg same (t, one) placed = async_block same t one
  block_kind _ same plain placed = stay_plain plain

  block_good : BlockGood (rule_of S.named o o.kind)
  block_good = block_kind o.kind refl (regular_at S k m at j o is) (placed_at S k m at j o is)

-- ---- the body

pub all_good : (S : Lowering) (k : ℕ) (m : Module) → slice_get S.d k ≡ Some m → (x : Op) → In x (new_body S m) → IsGood (new_ports S m) (new_body S m) x
all_good S k m at x here =
    let spot = position_of_In x (new_body S m) here in
    let from = block_of S k m at spot.0 x spot.1 in
    block_good S k m at from.0 from.1 from.3 x
    (In-slice_get x (block_by (rules_of S) (parts_in S m) (begin (rules_of S) m.body from.0) from.1) from.2 from.4)
    ((new_sound S k m at).ops spot.0 x spot.1)
