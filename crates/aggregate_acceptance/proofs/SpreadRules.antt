-- Operations that stay, and instances and outputs with the leaves of their operands and results, are good.
use Rattle.std.proofs.Common.{◌≡◌, ℕ, ◌+◌, ◌-◌, Bool, true, false, List, [], ◌∷◌, ◌++◌, length, map, drop, flat_map, Option, Some, refl, sym, ap, ap₂, subst, ◌∙◌, inl, inr, arith, length-append}
use Rattle.std.specs.List.{list_any}
use Rattle.std.proofs.lemmas.List.{length-map}
use Rattle.wiring.specs.Wiring.{In}
use Rattle.wiring.proofs.Members.{from_In-flat_map}
use Rattle.hw_model.specs.Types.{HwType, leaves}
use Rattle.hw_model.specs.Types.HwType.{array}
use Rattle.hw_model.specs.Kinds.{Kind, Instance, Reset, RegisterOp}
use Rattle.hw_model.specs.Kinds.Kind.{instance, output, register, async_firreg}
use Rattle.hw_model.specs.Opcodes.{opcode_of}
use Rattle.hw_model.specs.Design.{Ref, Port, OpResult, Op}
use Rattle.hw_model.specs.Sound.{type_in}
use Rattle.type_inference.specs.ResultTypes.{result_type as type_of_result, result_types as settled_types, result_count}
use Rattle.stored_form.specs.Bytes.{Each}
use Rattle.stored_form.specs.Dictionaries.{has_name, string_keys, takes_bin, IsKeptDictionary}
use Rattle.stored_form.specs.Kinds.{IsWrittenInstance}
use Rattle.stored_form.specs.Limits.{IsAnyType}
use Rattle.op_checks.specs.TypeChecks.{has_bad_part, is_outside, has_bad_field, has_clock_part, is_clock}
use Rattle.op_checks.specs.TypeLists.{known_types, differs, differ}
use Rattle.op_checks.specs.OwnChecks.{own_cause}
use Rattle.op_checks.specs.OperandChecks.{has_other_form, has_other_operand}
use Rattle.op_checks.specs.LimitChecks.{of_type, has_constant_outside, has_extract_outside, has_broken_copy, has_wide_concat, has_unknown_divisor, has_wrong_index, has_unequal_widths, has_clock_operand}
use Rattle.op_checks.specs.CountChecks.{operands_written, operand_count, type_count, has_miscounted_parts}
use Rattle.op_checks.proofs.NoOwnCause.{NoOwnCause}
use Rattle.op_checks.proofs.Widths.{neither}
use Rattle.op_verifier.specs.OpChecks.{has_again, divides_by_constant}
use Rattle.printing_laws.specs.Printable.{settled_result, IsPrintableOp}
use Rattle.printing_laws.proofs.VerifiedDesigns.{all_defined}
use Rattle.fold_laws.proofs.NewOps.{own_none}
use Rattle.aggregate_laws.specs.Leaves.{bare_result}
use Rattle.aggregate_laws.specs.OperationRules.{all_leaves}
use Rattle.aggregate_laws.specs.Aggregates.{is_scalar}
use Rattle.aggregate_laws.proofs.Bare.{types_bare}
use Rattle.aggregate_laws.proofs.Types.{parts_typed}
use Rattle.aggregate_laws.proofs.Scalars.{leaf_scalar, all_scalar_leaves}
use Rattle.aggregate_acceptance.proofs.LeafTypes.{leaf_part, leaf_clock, scalar_outside, scalar_fields, scalar_parts, scalar_readable, clock_of, no_clock, no_bad_part}
use Rattle.aggregate_acceptance.proofs.ResultValues.{none_member}
use Rattle.aggregate_acceptance.proofs.MadeKinds.{same_differs, neither_of, none_any, differ_self}
use Rattle.aggregate_acceptance.proofs.MadeOps.{IsGood, typed_there}

-- ---- what stays

-- what stands for values without parts has their types
pub scalars_typed : (old_type new_type : Ref → Option HwType) (parts : Ref → List Ref)
    → ((r : Ref) (t : HwType) → old_type r ≡ Some t → map new_type (parts r) ≡ map (λ (u : HwType). Some u) (leaves t))
    → (rs : List Ref) (us : List HwType) → map old_type rs ≡ known_types us → ((u : HwType) → In u us → is_scalar u ≡ true) → map new_type (flat_map parts rs) ≡ known_types us
scalars_typed old_type new_type parts typed rs us given all =
    parts_typed old_type new_type parts typed rs us given ∙ ap known_types (all_scalar_leaves us all)

-- a register's cause does not depend on divisors
pub register_cause : (f : RegisterOp) (r : Reset) (ts rs : List HwType) (n : ℕ) (xs : List (Option HwType)) (k k' : Bool)
    → own_cause (register f r) ts rs n xs k ≡ own_cause (register f r) ts rs n xs k'
unfolding own_cause has_unknown_divisor
register_cause f r ts rs n xs k k' = refl

pub async_cause : (ts rs : List HwType) (n : ℕ) (xs : List (Option HwType)) (k k' : Bool) → own_cause async_firreg ts rs n xs k ≡ own_cause async_firreg ts rs n xs k'
unfolding own_cause has_unknown_divisor
async_cause ts rs n xs k k' = refl

-- ---- lists of leaves

pub leaf_within : (ts : List HwType) → list_any is_outside ts ≡ false → (u : HwType) → In u (flat_map leaves ts) → (is_scalar u ≡ true) × (has_bad_part u ≡ false)
leaf_within ts within u here =
    let from = from_In-flat_map leaves u ts here in
    (leaf_scalar from.0 u from.2, leaf_part from.0 u (no_bad_part from.0 (none_member is_outside ts from.0 within from.1)) from.2)

pub leaf_no_clock : (ts : List HwType) → list_any is_clock ts ≡ false → list_any has_clock_part ts ≡ false → list_any is_clock (flat_map leaves ts) ≡ false
leaf_no_clock ts own within =
    none_any is_clock (flat_map leaves ts)
    (λ u here.
    let from = from_In-flat_map leaves u ts here in
    clock_of u (leaf_clock from.0 u (no_clock from.0 (none_member is_clock ts from.0 own from.1) (none_member has_clock_part ts from.0 within from.1)) from.2))

each_member : {A : Type 0} (P : A → Type 0) (xs : List A) → ((x : A) → In x xs → P x) → Each P xs
each_member P [] all = tt
each_member P (x ∷ xs) all = (all x (inl refl), each_member P xs (λ y here. all y (inr here)))

pub parts_none : (ts us : List HwType) → list_any has_clock_part (ts ++ us) ≡ false → list_any has_clock_part us ≡ false
parts_none [] us none = none
parts_none (t ∷ ts) us none = parts_none ts us (neither (has_clock_part t) (list_any has_clock_part (ts ++ us)) none).1

-- the first types of a list do not differ from themselves
differ_prefix : (ts us : List HwType) → differ (known_types ts) (known_types (ts ++ us)) ≡ false
differ_prefix [] us = refl
differ_prefix (t ∷ ts) us = neither_of (differs (Some t) (Some t)) (differ (known_types ts) (known_types (ts ++ us))) (same_differs t) (differ_prefix ts us)

drop_join : (ts us : List HwType) → drop (length ts) (ts ++ us) ≡ us
drop_join [] us = refl
drop_join (t ∷ ts) us = drop_join ts us

-- results without marks
none_again : (ts : List HwType) → has_again (map bare_result ts) ≡ false
none_again [] = refl
none_again (t ∷ ts) = none_again ts

bare_results : (ts : List HwType) → map settled_result (known_types ts) ≡ map bare_result ts
bare_results [] = refl
bare_results (t ∷ ts) = ap (λ (xs : List OpResult). bare_result t ∷ xs) (bare_results ts)

-- ---- instances and outputs with all leaves

-- an operation of a kind, with operands and with the leaves of the types and results of another one
abbrev pub spread_op : Op → Kind → List Ref → Op
spread_op o kind rs = record o { kind = kind; operands = rs; types = flat_map leaves o.types; results = map bare_result (all_leaves o); named = length (all_leaves o) }

module _ (i : Instance) (us rs : List HwType) (inputs : length i.inputs ≡ length us) (outputs : length i.outputs ≡ length rs)
    (within : (u : HwType) → In u (us ++ rs) → (is_scalar u ≡ true) × (has_bad_part u ≡ false)) (clocks : list_any is_clock rs ≡ false) where
  later_types : drop (length i.inputs) (us ++ rs) ≡ rs
  later_types = ap (λ n. drop n (us ++ rs)) inputs ∙ drop_join us rs

  instance_none : (known : Bool) → NoOwnCause (instance i) (us ++ rs) rs (length rs) (length (known_types us)) (known_types us) known
  unfolding has_other_form has_other_operand type_of_result settled_types result_count has_constant_outside has_extract_outside has_broken_copy has_wide_concat has_unknown_divisor has_wrong_index has_unequal_widths has_clock_operand has_miscounted_parts operands_written operand_count type_count
  instance_none known = record {
    form = refl;
    operand = differ_prefix us rs;
    result = ap (λ xs. differ (known_types rs) (known_types xs)) later_types ∙ differ_self rs;
    written = none_any is_outside (us ++ rs) (λ u here. scalar_outside u (within u here).0 (within u here).1);
    leaf = refl;
    array = refl;
    constant = refl;
    extract = refl;
    copy = refl;
    wide = refl;
    divisor = refl;
    index = refl;
    field_names = none_any has_bad_field (us ++ rs) (λ u here. scalar_fields u (within u here).0);
    field = refl;
    widths = refl;
    clock_part = none_any has_clock_part (us ++ rs) (λ u here. scalar_parts u (within u here).0);
    clock_type = ap (list_any is_clock) later_types ∙ clocks;
    clock_operand = refl;
    operands = length-map us (λ (t : HwType). Some t) ∙ sym inputs;
    types = counted;
    names = left;
    results = left;
    parts = refl;
  }
    where
      counted : length (us ++ rs) ≡ length i.inputs + length i.outputs
      counted = omega (arith, length-append us rs, inputs, outputs)

      left : length rs ≡ length (us ++ rs) - length i.inputs
      left = omega (arith, length-append us rs, inputs)

  -- an instance with the leaves of its operands and results
  pub instance_good : (ps₀ ps : List Port) (os₀ os : List Op) (o : Op) (i₀ : Instance) (refs : List Ref) → o.kind ≡ instance i₀ → IsPrintableOp ps₀ os₀ o → IsWrittenInstance i
      → map (type_in ps os) refs ≡ known_types us → flat_map leaves o.types ≡ us ++ rs → all_leaves o ≡ rs → IsGood ps os (spread_op o (instance i) refs)
  unfolding settled_types type_of_result operands_written type_count
  instance_good ps₀ ps os₀ os o i₀ refs is was written typed types results = record {
    settled = settled ∙ ap known_types (sym (types_bare (all_leaves o)));
    again = none_again (all_leaves o);
    defined = typed_there ps os refs us typed;
    alone = ap₂ (λ vs xs. own_cause (instance i) (flat_map leaves o.types) vs (length (all_leaves o)) xs (divides_by_constant os refs)) (types_bare (all_leaves o)) typed
        ∙ ap₂ (λ ts vs. own_cause (instance i) ts vs (length vs) (known_types us) (divides_by_constant os refs)) types results
        ∙ own_none (instance i) (us ++ rs) rs (length rs) (known_types us) (divides_by_constant os refs) (instance_none (divides_by_constant os refs));
    printable = record {
      defined = all_defined ps os refs (typed_there ps os refs us typed);
      operands = count ∙ sym inputs;
      types = ap length types ∙ (let counted : length (us ++ rs) ≡ length i.inputs + length i.outputs = omega (arith, length-append us rs, inputs, outputs) in counted);
      readable = each_member IsAnyType (flat_map leaves o.types)
          (λ u here. let kept = within u (subst (In u) types here) in scalar_readable u kept.0 kept.1);
      results = sym (ap (map settled_result) settled ∙ bare_results (all_leaves o));
      named = sym (length-map (all_leaves o) bare_result);
      few = λ h. cc;
      kept = tt;
      written = written;
      nameless = λ h. was.nameless (ap (λ k. has_name (opcode_of k)) is);
      name = was.name;
      dictionary = subst (λ k. IsKeptDictionary (opcode_of k) (string_keys (opcode_of k)) o.dictionary) is was.dictionary;
      bin = λ h. subst (λ k. takes_bin (opcode_of k) ≡ true) is (was.bin h);
    };
  }
    where
      settled : map (λ (t : HwType). Some t) (drop (length i.inputs) (flat_map leaves o.types)) ≡ known_types (all_leaves o)
      settled = ap (λ xs. known_types (drop (length i.inputs) xs)) types ∙ ap known_types (later_types ∙ sym results)

      count : length refs ≡ length us
      count = sym (length-map refs (type_in ps os)) ∙ ap length typed ∙ length-map us (λ (t : HwType). Some t)

module _ (us : List HwType) (within : (u : HwType) → In u us → (is_scalar u ≡ true) × (has_bad_part u ≡ false)) (clocks : list_any is_clock us ≡ false) where
  known_clocks : (ts : List HwType) → list_any is_clock ts ≡ false → list_any (of_type is_clock) (known_types ts) ≡ false
  known_clocks [] none = refl
  known_clocks (t ∷ ts) none =
      let both = neither (is_clock t) (list_any is_clock ts) none in
      neither_of (is_clock t) (list_any (of_type is_clock) (known_types ts)) both.0 (known_clocks ts both.1)

  output_none : (known : Bool) → NoOwnCause output us [] 0 (length (known_types us)) (known_types us) known
  unfolding has_other_form has_other_operand type_of_result settled_types result_count has_constant_outside has_extract_outside has_broken_copy has_wide_concat has_unknown_divisor has_wrong_index has_unequal_widths has_clock_operand has_miscounted_parts operands_written operand_count type_count
  output_none known = record {
    form = refl;
    operand = differ_self us;
    result = refl;
    written = none_any is_outside us (λ u here. scalar_outside u (within u here).0 (within u here).1);
    leaf = refl;
    array = refl;
    constant = refl;
    extract = refl;
    copy = refl;
    wide = refl;
    divisor = refl;
    index = refl;
    field_names = none_any has_bad_field us (λ u here. scalar_fields u (within u here).0);
    field = refl;
    widths = refl;
    clock_part = none_any has_clock_part us (λ u here. scalar_parts u (within u here).0);
    clock_type = clocks;
    clock_operand = known_clocks us clocks;
    operands = refl;
    types = sym (length-map us (λ (t : HwType). Some t));
    names = refl;
    results = refl;
    parts = refl;
  }

  -- an output with the leaves of its operands
  pub output_good : (ps₀ ps : List Port) (os₀ os : List Op) (o : Op) (refs : List Ref) → o.kind ≡ output → IsPrintableOp ps₀ os₀ o
      → map (type_in ps os) refs ≡ known_types us → flat_map leaves o.types ≡ us → all_leaves o ≡ [] → IsGood ps os (spread_op o output refs)
  unfolding settled_types type_of_result operands_written type_count
  output_good ps₀ ps os₀ os o refs is was typed types results = record {
    settled = ap known_types (sym (types_bare (all_leaves o) ∙ results));
    again = none_again (all_leaves o);
    defined = typed_there ps os refs us typed;
    alone = ap₂ (λ vs xs. own_cause output (flat_map leaves o.types) vs (length (all_leaves o)) xs (divides_by_constant os refs)) (types_bare (all_leaves o)) typed
        ∙ ap₂ (λ ts vs. own_cause output ts vs (length vs) (known_types us) (divides_by_constant os refs)) types results
        ∙ own_none output us [] 0 (known_types us) (divides_by_constant os refs) (output_none (divides_by_constant os refs));
    printable = record {
      defined = all_defined ps os refs (typed_there ps os refs us typed);
      operands = refl;
      types = ap length types ∙ sym count;
      readable = each_member IsAnyType (flat_map leaves o.types) (λ u here. let kept = within u (subst (In u) types here) in scalar_readable u kept.0 kept.1);
      results = ap (map bare_result) results;
      named = sym (length-map (all_leaves o) bare_result);
      few = λ h. cc;
      kept = tt;
      written = tt;
      nameless = λ h. was.nameless (ap (λ k. has_name (opcode_of k)) is);
      name = was.name;
      dictionary = subst (λ k. IsKeptDictionary (opcode_of k) (string_keys (opcode_of k)) o.dictionary) is was.dictionary;
      bin = λ h. subst (λ k. takes_bin (opcode_of k) ≡ true) is (was.bin h);
    };
  }
    where
      count : length refs ≡ length us
      count = sym (length-map refs (type_in ps os)) ∙ ap length typed ∙ length-map us (λ (t : HwType). Some t)
