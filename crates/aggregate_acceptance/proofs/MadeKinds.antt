-- Kinds of operations that are made for leaves: nothing is refused of them by themselves, and they can be printed.
use Rattle.std.proofs.Common.{◌≡◌, ℕ, ◌+◌, ◌^◌, ◌<◌, ◌≤◌, max, Bool, true, false, not, ◌||◌, nat_lt, List, [], ◌∷◌, length, ℤ, pos, Option, Some, None, refl, sym, ap, subst, ◌∙◌, inl, inr, arith}
use Rattle.std.specs.List.{list_any}
use Rattle.std.proofs.lemmas.Bool.{lt-leb, le-ltb}
use Rattle.std.proofs.lemmas.List.{length-map}
use Rattle.std.proofs.Common.{pow_mono, lt_of_lt_of_le}
use Rattle.wiring.specs.Wiring.{In}
use Rattle.wiring.proofs.Members.{from_In-map}
use Rattle.hw_model.specs.SameType.{type_self}
use Rattle.hw_model.specs.Types.{HwType}
use Rattle.hw_model.specs.Types.HwType.{int, clock}
use Rattle.hw_model.specs.Kinds.{Kind, Predicate, Reset, RegisterOp}
use Rattle.hw_model.specs.Kinds.Reset.{no_reset, sync_reset}
use Rattle.hw_model.specs.Kinds.RegisterOp.{compreg, compreg_ce, firreg}
use Rattle.hw_model.specs.Kinds.Kind.{icmp, extract, concat, mux, constant, wire, register, async_firreg}
use Rattle.hw_model.specs.Design.{takes_enable}
use Rattle.hw_model.specs.Sound.{register_types}
use Rattle.type_inference.specs.ResultTypes.{joined_width, kept_size, as_int, result_type as type_of_result, result_types as settled_types, result_count}
use Rattle.stored_form.specs.Bytes.{Each}
use Rattle.stored_form.specs.Kinds.{KeepsConstants, IsWritten}
use Rattle.stored_form.specs.Limits.{IsInteger, IsAnyType}
use Rattle.stored_form.specs.Constants.{kept_integer}
use Rattle.op_checks.specs.TypeChecks.{has_bad_part, is_outside, has_bad_field, has_clock_part, is_clock, is_int}
use Rattle.op_checks.specs.TypeLists.{known_types, differs, differ}
use Rattle.op_checks.specs.LiteralChecks.{is_outside_type, is_out_of_range}
use Rattle.op_checks.specs.OperandChecks.{has_other_form, has_other_operand}
use Rattle.op_checks.specs.LimitChecks.{of_type, has_constant_outside, has_extract_outside, has_broken_copy, has_wide_concat, has_unknown_divisor, has_wrong_index, has_unequal_widths, has_clock_operand}
use Rattle.op_checks.specs.CountChecks.{operands_written, operand_count, type_count, has_miscounted_parts}
use Rattle.op_checks.proofs.NoOwnCause.{NoOwnCause}
use Rattle.op_checks.proofs.Owned.{integer_outside}
use Rattle.printing_laws.specs.NameHints.{is_pack}
use Rattle.aggregate_acceptance.proofs.LeafTypes.{few_bits, IsNarrow}

-- ---- tests

pub same_differs : (t : HwType) → differs (Some t) (Some t) ≡ false
same_differs t = ap not (type_self t)

pub neither_of : (a b : Bool) → a ≡ false → b ≡ false → a || b ≡ false
neither_of a b p q = rw (p, q) refl

pub none_any : {A : Type 0} (p : A → Bool) (xs : List A) → ((x : A) → In x xs → p x ≡ false) → list_any p xs ≡ false
none_any p [] none = refl
none_any p (x ∷ xs) none = neither_of (p x) (list_any p xs) (none x (inl refl)) (none_any p xs (λ y here. none y (inr here)))

pub differ_self : (ts : List HwType) → differ (known_types ts) (known_types ts) ≡ false
differ_self [] = refl
differ_self (t ∷ ts) = neither_of (differs (Some t) (Some t)) (differ (known_types ts) (known_types ts)) (same_differs t) (differ_self ts)

only_differs : (w : ℕ) → differ (known_types (int w ∷ [])) (Some (int w) ∷ []) ≡ false
only_differs w = neither_of (differs (Some (int w)) (Some (int w))) false (same_differs (int w)) refl

only_outside : (w : ℕ) → has_bad_part (int w) ≡ false → list_any is_outside (int w ∷ []) ≡ false
only_outside w good = neither_of (is_outside (int w)) false (integer_outside w ∙ good) refl

only_readable : (w : ℕ) → has_bad_part (int w) ≡ false → Each IsAnyType (int w ∷ [])
only_readable w good = let few : w ≤ 128 = few_bits w good in (omega arith, tt)

-- ---- kinds that are made

-- an operation of the kind, with operands of types `us`, may write the types `ts` and have a result of type t
pub record IsMadeKind (kind : Kind) (us ts : List HwType) (t : HwType) : Type 0 where
  pub none : (known : Bool) → NoOwnCause kind ts (t ∷ []) 1 (length (known_types us)) (known_types us) known
  pub settled : settled_types kind ts (length us) ≡ Some t ∷ []
  pub operands : length us ≡ operands_written kind (length us)
  pub types : length ts ≡ type_count kind (length us)
  pub readable : Each IsAnyType ts
  pub pack : is_pack kind 1 ≡ false
  pub kept : KeepsConstants kind ts
  pub written : IsWritten kind

pub wire_made : (w : ℕ) → has_bad_part (int w) ≡ false → IsMadeKind wire (int w ∷ []) (int w ∷ []) (int w)
unfolding has_other_form has_other_operand type_of_result settled_types result_count has_constant_outside has_extract_outside has_broken_copy has_wide_concat has_unknown_divisor has_wrong_index has_unequal_widths has_clock_operand has_miscounted_parts operands_written operand_count type_count
wire_made w good = record {
  none = λ known. record {
    form = refl;
    operand = neither_of (differs (Some (int w)) (Some (int w))) false (same_differs (int w)) refl;
    result = only_differs w;
    written = only_outside w good;
    leaf = refl;
    array = refl;
    constant = refl;
    extract = refl;
    copy = refl;
    wide = refl;
    divisor = refl;
    index = refl;
    field_names = refl;
    field = refl;
    widths = refl;
    clock_part = refl;
    clock_type = refl;
    clock_operand = refl;
    operands = refl;
    types = refl;
    names = refl;
    results = refl;
    parts = refl;
  };
  settled = refl;
  operands = refl;
  types = refl;
  readable = only_readable w good;
  pack = refl;
  kept = tt;
  written = tt;
}

pub mux_made : (w : ℕ) → has_bad_part (int w) ≡ false → IsMadeKind mux (int 1 ∷ int w ∷ int w ∷ []) (int w ∷ []) (int w)
unfolding has_other_form has_other_operand type_of_result settled_types result_count has_constant_outside has_extract_outside has_broken_copy has_wide_concat has_unknown_divisor has_wrong_index has_unequal_widths has_clock_operand has_miscounted_parts operands_written operand_count type_count
mux_made w good = record {
  none = λ known. record {
    form = refl;
    operand =
        neither_of (differs (Some (int 1)) (Some (int 1))) (differs (Some (int w)) (Some (int w)) || differs (Some (int w)) (Some (int w))) (same_differs (int 1))
        (neither_of (differs (Some (int w)) (Some (int w))) (differs (Some (int w)) (Some (int w))) (same_differs (int w)) (same_differs (int w)));
    result = only_differs w;
    written = only_outside w good;
    leaf = refl;
    array = refl;
    constant = refl;
    extract = refl;
    copy = refl;
    wide = refl;
    divisor = refl;
    index = refl;
    field_names = refl;
    field = refl;
    widths = refl;
    clock_part = refl;
    clock_type = refl;
    clock_operand = refl;
    operands = refl;
    types = refl;
    names = refl;
    results = refl;
    parts = refl;
  };
  settled = refl;
  operands = refl;
  types = refl;
  readable = only_readable w good;
  pack = refl;
  kept = tt;
  written = tt;
}

pub constant_made : (w : ℕ) (z : ℤ) → has_bad_part (int w) ≡ false → is_outside_type z (int w) ≡ false → kept_integer (int w) z ≡ z → IsInteger z
    → IsMadeKind (constant z) [] (int w ∷ []) (int w)
unfolding has_other_form has_other_operand type_of_result settled_types result_count has_constant_outside has_extract_outside has_broken_copy has_wide_concat has_unknown_divisor has_wrong_index has_unequal_widths has_clock_operand has_miscounted_parts operands_written operand_count type_count
constant_made w z good range kept written = record {
  none = λ known. record {
    form = refl;
    operand = refl;
    result = only_differs w;
    written = only_outside w good;
    leaf = refl;
    array = refl;
    constant = range;
    extract = refl;
    copy = refl;
    wide = refl;
    divisor = refl;
    index = refl;
    field_names = refl;
    field = refl;
    widths = refl;
    clock_part = refl;
    clock_type = refl;
    clock_operand = refl;
    operands = refl;
    types = refl;
    names = refl;
    results = refl;
    parts = refl;
  };
  settled = refl;
  operands = refl;
  types = refl;
  readable = only_readable w good;
  pack = refl;
  kept = kept;
  written = written;
}

-- a number that has so many bits
pub number_made : (w n : ℕ) → has_bad_part (int w) ≡ false → n < 2 ^ w → IsMadeKind (constant (pos n)) [] (int w ∷ []) (int w)
unfolding is_out_of_range
number_made w n good small =
    constant_made w (pos n) good (lt-leb (2 ^ w) n small) refl (lt_of_lt_of_le small (pow_mono {i = w} {j = 128} (few_bits w good)))

pub compare_made : (p : Predicate) (w : ℕ) → has_bad_part (int w) ≡ false → IsMadeKind (icmp p) (int w ∷ int w ∷ []) (int w ∷ []) (int 1)
unfolding has_other_form has_other_operand type_of_result settled_types result_count has_constant_outside has_extract_outside has_broken_copy has_wide_concat has_unknown_divisor has_wrong_index has_unequal_widths has_clock_operand has_miscounted_parts operands_written operand_count type_count
compare_made p w good = record {
  none = λ known. record {
    form = refl;
    operand =
        neither_of (differs (Some (int w)) (Some (int w))) (differs (Some (int w)) (Some (int w)) || false) (same_differs (int w))
        (neither_of (differs (Some (int w)) (Some (int w))) false (same_differs (int w)) refl);
    result = only_differs 1;
    written = only_outside w good;
    leaf = refl;
    array = refl;
    constant = refl;
    extract = refl;
    copy = refl;
    wide = refl;
    divisor = refl;
    index = refl;
    field_names = refl;
    field = refl;
    widths = refl;
    clock_part = refl;
    clock_type = refl;
    clock_operand = refl;
    operands = refl;
    types = refl;
    names = refl;
    results = refl;
    parts = refl;
  };
  settled = refl;
  operands = refl;
  types = refl;
  readable = only_readable w good;
  pack = refl;
  kept = tt;
  written = tt;
}

pub extract_made : (low v w : ℕ) → has_bad_part (int v) ≡ false → has_bad_part (int w) ≡ false → low + w ≤ v → IsMadeKind (extract low) (int v ∷ []) (int v ∷ int w ∷ []) (int w)
unfolding has_other_form has_other_operand type_of_result settled_types result_count has_constant_outside has_extract_outside has_broken_copy has_wide_concat has_unknown_divisor has_wrong_index has_unequal_widths has_clock_operand has_miscounted_parts operands_written operand_count type_count
extract_made low v w wide good within = record {
  none = λ known. record {
    form = refl;
    operand = neither_of (differs (Some (int v)) (Some (int v))) false (same_differs (int v)) refl;
    result = only_differs w;
    written = neither_of (is_outside (int v)) (is_outside (int w) || false) (integer_outside v ∙ wide) (only_outside w good);
    leaf = refl;
    array = refl;
    constant = refl;
    extract = le-ltb v (low + w) within;
    copy = refl;
    wide = refl;
    divisor = refl;
    index = refl;
    field_names = refl;
    field = refl;
    widths = refl;
    clock_part = refl;
    clock_type = refl;
    clock_operand = refl;
    operands = refl;
    types = refl;
    names = refl;
    results = refl;
    parts = refl;
  };
  settled = refl;
  operands = refl;
  types = refl;
  readable = (let few : v ≤ 128 = few_bits v wide in omega arith, only_readable w good);
  pack = refl;
  kept = tt;
  written = let few : v ≤ 128 = few_bits v wide in omega arith;
}

-- ---- joined integers

module _ (ts : List HwType) (narrow : (t : HwType) → In t ts → IsNarrow t) where
  -- a test that no integer within the limits meets
  none_of : (p : HwType → Bool) → ((w : ℕ) → has_bad_part (int w) ≡ false → p (int w) ≡ false) → list_any p ts ≡ false
  none_of p none = none_any p ts (λ t here. let is = narrow t here in ap p is.is ∙ none is.bits is.within)

  no_clocks : list_any (of_type is_clock) (known_types ts) ≡ false
  no_clocks =
      none_any (of_type is_clock) (known_types ts)
      (λ x here.
      let from = from_In-map (λ (t : HwType). Some t) x ts here in
      let is = narrow from.0 from.1 in
      ap (of_type is_clock) (from.2 ∙ ap Some is.is))

  all_readable : Each IsAnyType ts
  all_readable = go ts narrow
    where
      go : (us : List HwType) → ((t : HwType) → In t us → IsNarrow t) → Each IsAnyType us
      go [] each = tt
      go (u ∷ us) each =
          let is = each u (inl refl) in
          let few : is.bits ≤ 128 = few_bits is.bits is.within in
          (subst IsAnyType (sym is.is) (let small : is.bits < 4294967296 = omega arith in small), go us (λ t here. each t (inr here)))

  module _ (w : ℕ) (some : 1 ≤ length ts) (joined : joined_width ts ≡ Some w) (few : w ≤ 128) where
    settles_width : as_int (joined_width ts) ≡ Some (int w)
    settles_width =
        ap as_int joined ∙ ap (λ n. Some (int n)) (let kept : kept_size w ≡ w = omega arith in kept)

    concat_none : (known : Bool) → NoOwnCause concat ts (int w ∷ []) 1 (length (known_types ts)) (known_types ts) known
    unfolding has_other_form has_other_operand type_of_result settled_types result_count has_constant_outside has_extract_outside has_broken_copy has_wide_concat has_unknown_divisor has_wrong_index has_unequal_widths has_clock_operand has_miscounted_parts operands_written operand_count type_count
    concat_none known = record {
      form = none_of (λ (t : HwType). not (is_int t)) (λ n good. refl);
      operand = differ_self ts;
      result = ap (λ x. differ (known_types (int w ∷ [])) (x ∷ [])) settles_width ∙ only_differs w;
      written = none_of is_outside (λ n good. integer_outside n ∙ good);
      leaf = refl;
      array = refl;
      constant = refl;
      extract = refl;
      copy = refl;
      wide = ap is_wide joined ∙ le-ltb 128 w few;
      divisor = refl;
      index = refl;
      field_names = none_of has_bad_field (λ n good. refl);
      field = refl;
      widths = refl;
      clock_part = none_of has_clock_part (λ n good. refl);
      clock_type = none_of is_clock (λ n good. refl);
      clock_operand = no_clocks;
      operands = counted (length (known_types ts)) (length-map ts (λ (t : HwType). Some t));
      types = sym (length-map ts (λ (t : HwType). Some t));
      names = refl;
      results = refl;
      parts = refl;
    }
      where
        is_wide : Option ℕ → Bool
        is_wide None = false
        is_wide (Some n) = nat_lt 128 n

        counted : (n : ℕ) → n ≡ length ts → n ≡ max 1 n
        counted n same = omega arith

    pub concat_made : IsMadeKind concat ts ts (int w)
    unfolding type_of_result settled_types operands_written type_count
    concat_made = record {
      none = concat_none;
      settled = ap (λ x. x ∷ []) settles_width;
      operands = let most : length ts ≡ max 1 (length ts) = omega arith in most;
      types = refl;
      readable = all_readable;
      pack = refl;
      kept = tt;
      written = tt;
    }

-- ---- registers

-- the types of the operands of a register of a form: its data, its clock, its enable, its reset and reset value
abbrev reset_written : Reset → HwType → List HwType
reset_written no_reset t = []
reset_written sync_reset t = int 1 ∷ t ∷ []

abbrev pub register_written : Bool → Reset → HwType → List HwType
register_written false r t = t ∷ clock ∷ reset_written r t
register_written true r t = t ∷ clock ∷ int 1 ∷ reset_written r t

pub register_known : (e : Bool) (r : Reset) (t : HwType) → register_types e r t ≡ known_types (register_written e r t)
register_known false no_reset t = refl
register_known false sync_reset t = refl
register_known true no_reset t = refl
register_known true sync_reset t = refl

register_operand : (f : RegisterOp) (r : Reset) (w : ℕ) → has_other_operand (register f r) (int w ∷ []) (known_types (register_written (takes_enable f) r (int w))) ≡ false
unfolding has_other_operand
register_operand compreg no_reset w = neither_of _ _ (neither_of _ _ (same_differs (int w)) refl) refl
register_operand compreg sync_reset w = neither_of _ _ (neither_of _ _ (same_differs (int w)) refl) (neither_of _ _ refl (neither_of _ _ (same_differs (int 1)) (same_differs (int w))))
register_operand compreg_ce no_reset w = neither_of _ _ (neither_of _ _ (same_differs (int w)) refl) (neither_of _ _ (same_differs (int 1)) refl)
register_operand compreg_ce sync_reset w =
    neither_of _ _ (neither_of _ _ (same_differs (int w)) refl) (neither_of _ _ (same_differs (int 1)) (neither_of _ _ (same_differs (int 1)) (same_differs (int w))))
register_operand firreg no_reset w = neither_of _ _ (neither_of _ _ (same_differs (int w)) refl) refl
register_operand firreg sync_reset w = neither_of _ _ (neither_of _ _ (same_differs (int w)) refl) (neither_of _ _ refl (neither_of _ _ (same_differs (int 1)) (same_differs (int w))))

register_clocks : (f : RegisterOp) (r : Reset) (w : ℕ) → has_clock_operand (register f r) (known_types (register_written (takes_enable f) r (int w))) ≡ false
unfolding has_clock_operand
register_clocks compreg no_reset w = refl
register_clocks compreg sync_reset w = refl
register_clocks compreg_ce no_reset w = refl
register_clocks compreg_ce sync_reset w = refl
register_clocks firreg no_reset w = refl
register_clocks firreg sync_reset w = refl

register_count : (f : RegisterOp) (r : Reset) (t : HwType) (n : ℕ) → length (register_written (takes_enable f) r t) ≡ operands_written (register f r) n
unfolding operands_written
register_count compreg no_reset t n = refl
register_count compreg sync_reset t n = refl
register_count compreg_ce no_reset t n = refl
register_count compreg_ce sync_reset t n = refl
register_count firreg no_reset t n = refl
register_count firreg sync_reset t n = refl

pub register_made : (f : RegisterOp) (r : Reset) (w : ℕ) → has_bad_part (int w) ≡ false
    → IsMadeKind (register f r) (register_written (takes_enable f) r (int w)) (int w ∷ []) (int w)
unfolding has_other_form type_of_result settled_types result_count has_constant_outside has_extract_outside has_broken_copy has_wide_concat has_unknown_divisor has_wrong_index has_unequal_widths has_miscounted_parts operand_count type_count
register_made f r w good = record {
  none = λ known. record {
    form = refl;
    operand = register_operand f r w;
    result = only_differs w;
    written = only_outside w good;
    leaf = refl;
    array = refl;
    constant = refl;
    extract = refl;
    copy = refl;
    wide = refl;
    divisor = refl;
    index = refl;
    field_names = refl;
    field = refl;
    widths = refl;
    clock_part = refl;
    clock_type = refl;
    clock_operand = register_clocks f r w;
    operands = length-map (register_written (takes_enable f) r (int w)) (λ (t : HwType). Some t)
        ∙ register_count f r (int w) (length (known_types (register_written (takes_enable f) r (int w))));
    types = refl;
    names = refl;
    results = refl;
    parts = refl;
  };
  settled = refl;
  operands = register_count f r (int w) (length (register_written (takes_enable f) r (int w)));
  types = refl;
  readable = only_readable w good;
  pack = refl;
  kept = tt;
  written = tt;
}

pub async_made : (w : ℕ) → has_bad_part (int w) ≡ false → IsMadeKind async_firreg (register_written false sync_reset (int w)) (int w ∷ []) (int w)
unfolding has_other_form has_other_operand type_of_result settled_types result_count has_constant_outside has_extract_outside has_broken_copy has_wide_concat has_unknown_divisor has_wrong_index has_unequal_widths has_clock_operand has_miscounted_parts operands_written operand_count type_count
async_made w good = record {
  none = λ known. record {
    form = refl;
    operand = neither_of _ _ (neither_of _ _ (same_differs (int w)) refl) (neither_of _ _ refl (neither_of _ _ (same_differs (int 1)) (same_differs (int w))));
    result = only_differs w;
    written = only_outside w good;
    leaf = refl;
    array = refl;
    constant = refl;
    extract = refl;
    copy = refl;
    wide = refl;
    divisor = refl;
    index = refl;
    field_names = refl;
    field = refl;
    widths = refl;
    clock_part = refl;
    clock_type = refl;
    clock_operand = refl;
    operands = refl;
    types = refl;
    names = refl;
    results = refl;
    parts = refl;
  };
  settled = refl;
  operands = refl;
  types = refl;
  readable = only_readable w good;
  pack = refl;
  kept = tt;
  written = tt;
}
