-- The results of operations that become leaves have values' types.
use Rattle.std.proofs.Common.{◌≡◌, ℕ, Bool, true, false, cond, ◌==◌, List, [], ◌∷◌, Option, Some, None, refl, sym, ap, subst, ◌∙◌, inl, inr}
use Rattle.std.specs.List.{list_any}
use Rattle.wiring.specs.Wiring.{In}
use Rattle.wiring.proofs.Members.{In-map, from_In-map}
use Rattle.hw_model.specs.Types.{Name, HwType, FieldTypes}
use Rattle.hw_model.specs.Types.HwType.{int, clock, array, struct}
use Rattle.hw_model.specs.Types.FieldTypes.{no_fields, field}
use Rattle.hw_model.specs.Kinds.{Kind}
use Rattle.hw_model.specs.Kinds.ArrayOp.{array_create, array_concat, array_get, array_slice, array_inject}
use Rattle.hw_model.specs.Kinds.StructOp.{struct_create, struct_extract, struct_inject, struct_explode}
use Rattle.hw_model.specs.Kinds.Kind.{mux, aggregate_constant, on_array, on_struct, bitcast, wire, register, async_firreg}
use Rattle.hw_model.specs.Design.{same_name}
use Rattle.hw_model.specs.Sound.{field_list, field_type}
use Rattle.type_inference.specs.ResultTypes.{first_type, second_type, kept_size, as_array, array_of, joined_length, element_of, field_of, fields_of, result_type as type_of_result, result_types as settled_types}
use Rattle.op_checks.specs.TypeChecks.{is_outside, has_bad_part, has_bad_part_among, is_without_fields, has_clock, has_clock_among, has_clock_part, is_clock}
use Rattle.op_checks.specs.TypeLists.{known_types}
use Rattle.op_checks.specs.LimitChecks.{of_type, value_types}
use Rattle.op_checks.proofs.Widths.{neither}
use Rattle.op_checks.proofs.NoOwnCause.{NoOwnCause}
use Rattle.op_checks.proofs.Settled.{settles}
use Rattle.aggregate_acceptance.proofs.LeafTypes.{no_bad_part, no_clock, IsValueType}

-- ---- members of lists

-- a test that holds of no member
pub none_member : {A : Type 0} (p : A → Bool) (xs : List A) (x : A) → list_any p xs ≡ false → In x xs → p x ≡ false
none_member p [] x none here = absurd here
none_member p (y ∷ xs) x none (inl same) = ap p same ∙ (neither (p y) (list_any p xs) none).0
none_member p (y ∷ xs) x none (inr here) = none_member p xs x (neither (p y) (list_any p xs) none).1 here

-- ---- kinds

-- whether an operation of the kind may become several
abbrev pub may_have_leaves : Kind → Bool
may_have_leaves mux = true
may_have_leaves (aggregate_constant ls) = true
may_have_leaves (on_array a) = true
may_have_leaves (on_struct s) = true
may_have_leaves bitcast = true
may_have_leaves wire = true
may_have_leaves (register f r) = true
may_have_leaves async_firreg = true
may_have_leaves _ = false

values_written : (kind : Kind) (ts : List HwType) → may_have_leaves kind ≡ true → list_any is_clock (value_types kind ts) ≡ false → list_any is_clock ts ≡ false
values_written mux ts may none = none
values_written (aggregate_constant ls) ts may none = none
values_written (on_array a) ts may none = none
values_written (on_struct s) ts may none = none
values_written bitcast ts may none = none
values_written wire ts may none = none
values_written (register f r) ts may none = none
values_written async_firreg ts may none = none
values_written _ ts may none = cc

-- ---- parts of types

element_value : (x : Option HwType) (u : HwType) → ((t : HwType) → x ≡ Some t → IsValueType t) → element_of x ≡ Some u → IsValueType u
element_value None u all is = cc
element_value (Some (int w)) u all is = cc
element_value (Some clock) u all is = cc
element_value (Some (struct fs)) u all is = cc
element_value (Some (array n t)) u all is =
    let same : t ≡ u = cc in
    let is_array = all (array n t) refl in
    subst IsValueType same (record { parts = (neither (n == 0) (has_bad_part t) is_array.parts).1; clocks = is_array.clocks })

field_value : (fs : FieldTypes) (name : Name) (u : HwType) → has_bad_part_among fs ≡ false → has_clock_among fs ≡ false → field_type fs name ≡ Some u → IsValueType u
field_value no_fields name u good none is = cc
field_value (field f t fs) name u good none is = go (same_name f name) is (field_value fs name u bad.1 clk.1)
  where
    bad : (has_bad_part t ≡ false) × (has_bad_part_among fs ≡ false)
    bad = neither (has_bad_part t) (has_bad_part_among fs) good

    clk : (has_clock t ≡ false) × (has_clock_among fs ≡ false)
    clk = neither (has_clock t) (has_clock_among fs) none

    go : (b : Bool) → cond b (Some t) (field_type fs name) ≡ Some u → (field_type fs name ≡ Some u → IsValueType u) → IsValueType u
    go true here rest = let same : t ≡ u = cc in subst IsValueType same (record { parts = bad.0; clocks = clk.0 })
    go false later rest = rest later

field_of_value : (x : Option HwType) (name : Name) (u : HwType) → ((t : HwType) → x ≡ Some t → IsValueType t) → field_of x name ≡ Some u → IsValueType u
field_of_value None name u all is = cc
field_of_value (Some (int w)) name u all is = cc
field_of_value (Some clock) name u all is = cc
field_of_value (Some (array n t)) name u all is = cc
field_of_value (Some (struct fs)) name u all is =
    let whole = all (struct fs) refl in
    field_value fs name u (neither (is_without_fields fs) (has_bad_part_among fs) whole.parts).1 whole.clocks is

listed_value : (fs : FieldTypes) (u : HwType) → has_bad_part_among fs ≡ false → has_clock_among fs ≡ false → In u (field_list fs) → IsValueType u
listed_value no_fields u good none here = absurd here
listed_value (field f t fs) u good none (inl same) =
    subst IsValueType (sym same)
    (record { parts = (neither (has_bad_part t) (has_bad_part_among fs) good).0; clocks = (neither (has_clock t) (has_clock_among fs) none).0 })
listed_value (field f t fs) u good none (inr here) =
    listed_value fs u (neither (has_bad_part t) (has_bad_part_among fs) good).1 (neither (has_clock t) (has_clock_among fs) none).1 here

fields_of_value : (x : Option HwType) (u : HwType) → ((t : HwType) → x ≡ Some t → IsValueType t) → In (Some u) (fields_of x) → IsValueType u
fields_of_value None u all here = absurd here
fields_of_value (Some (int w)) u all here = absurd here
fields_of_value (Some clock) u all here = absurd here
fields_of_value (Some (array n t)) u all here = absurd here
fields_of_value (Some (struct fs)) u all here =
    let whole = all (struct fs) refl in
    let from = from_In-map (λ (t : HwType). Some t) (Some u) (field_list fs) here in
    let same : u ≡ from.0 = cc in
    subst IsValueType (sym same) (listed_value fs from.0 (neither (is_without_fields fs) (has_bad_part_among fs) whole.parts).1 whole.clocks from.1)

-- an array that is made of parts
made_value : (rs : List HwType) (x : Option HwType) (n : ℕ) (e u : HwType) → x ∷ [] ≡ known_types rs → x ≡ Some (array n e) → of_type is_outside (first_type rs) ≡ false
    → has_clock e ≡ false → x ≡ Some u → IsValueType u
made_value [] x n e u settled is within none typed = cc
made_value (r ∷ rs) x n e u settled is within none typed =
    let first : r ≡ array n e = cc in
    let same : r ≡ u = cc in
    subst IsValueType same (record { parts = no_bad_part r within; clocks = ap has_clock first ∙ none })

-- ---- results

module _ {count n : ℕ} {xs : List (Option HwType)} {known : Bool} (kind : Kind) (ts rs : List HwType) (may : may_have_leaves kind ≡ true)
    (h : NoOwnCause kind ts rs count n xs known) where
  -- each written type is a value's
  pub written_value : (t : HwType) → In t ts → IsValueType t
  written_value t here = record {
    parts = no_bad_part t (none_member is_outside ts t h.written here);
    clocks = no_clock t (none_member is_clock ts t (values_written kind ts may h.clock_type) here) (none_member has_clock_part ts t h.clock_part here);
  }

  pub first_value : (t : HwType) → first_type ts ≡ Some t → IsValueType t
  first_value t is = written_value t (first_there ts is)
    where
      first_there : (us : List HwType) → first_type us ≡ Some t → In t us
      first_there [] same = cc
      first_there (u ∷ us) same = let one : t ≡ u = cc in inl one

  second_value : (t : HwType) → second_type ts ≡ Some t → IsValueType t
  second_value t is = written_value t (second_there ts is)
    where
      first_there : (us : List HwType) → first_type us ≡ Some t → In t us
      first_there [] same = cc
      first_there (u ∷ us) same = let one : t ≡ u = cc in inl one

      second_there : (us : List HwType) → second_type us ≡ Some t → In t us
      second_there [] same = cc
      second_there (u ∷ us) same = inr (first_there us same)

-- the result of an operation with one
only_value : (x : Option HwType) (rs : List HwType) (t : HwType) → x ∷ [] ≡ known_types rs → In t rs → x ≡ Some t
only_value x [] t is here = absurd here
only_value x (r ∷ []) t is (inl same) = let one : x ≡ Some r = cc in one ∙ ap Some (sym same)
only_value x (r ∷ []) t is (inr never) = absurd never
only_value x (r ∷ s ∷ rs) t is here = cc

-- an array of a number of elements of the first type
created_value : (ts rs : List HwType) (n : ℕ) (u : HwType) → ((t : HwType) → first_type ts ≡ Some t → IsValueType t) → as_array n (first_type ts) ∷ [] ≡ known_types rs
    → of_type is_outside (first_type rs) ≡ false → as_array n (first_type ts) ≡ Some u → IsValueType u
created_value [] rs n u all settled within typed = cc
created_value (t ∷ ts) rs n u all settled within typed =
    made_value rs (Some (array (kept_size n) t)) (kept_size n) t u settled refl within (all t refl).clocks typed

joined_value : (m : Option ℕ) (x : Option HwType) (rs : List HwType) (u : HwType) → ((t : HwType) → element_of x ≡ Some t → IsValueType t)
    → array_of m (element_of x) ∷ [] ≡ known_types rs → of_type is_outside (first_type rs) ≡ false → array_of m (element_of x) ≡ Some u → IsValueType u
joined_value m x rs u all settled within typed = go m (element_of x) all settled typed
  where
    go : (m : Option ℕ) (y : Option HwType) → ((t : HwType) → y ≡ Some t → IsValueType t) → array_of m y ∷ [] ≡ known_types rs → array_of m y ≡ Some u → IsValueType u
    go None y each is one = cc
    go (Some k) None each is one = cc
    go (Some k) (Some t) each is one = made_value rs (Some (array (kept_size k) t)) (kept_size k) t u is refl within (each t refl).clocks one

pub result_value : {count n : ℕ} {xs : List (Option HwType)} {known : Bool} (kind : Kind) (ts rs : List HwType) → may_have_leaves kind ≡ true
    → NoOwnCause kind ts rs count n xs known → (t : HwType) → In t rs → IsValueType t
unfolding settled_types type_of_result
result_value mux ts rs may h t here = first_value mux ts rs may h t (only_value (first_type ts) rs t (settles mux ts rs h) here)
result_value (aggregate_constant ls) ts rs may h t here =
    first_value (aggregate_constant ls) ts rs may h t (only_value (first_type ts) rs t (settles (aggregate_constant ls) ts rs h) here)
result_value {n = n} (on_array array_create) ts rs may h t here =
    created_value ts rs n t (first_value (on_array array_create) ts rs may h) (settles (on_array array_create) ts rs h) h.array
    (only_value (as_array n (first_type ts)) rs t (settles (on_array array_create) ts rs h) here)
result_value (on_array array_concat) ts rs may h t here =
    joined_value (joined_length ts) (first_type ts) rs t (λ e. element_value (first_type ts) e (first_value (on_array array_concat) ts rs may h))
    (settles (on_array array_concat) ts rs h) h.array
    (only_value (array_of (joined_length ts) (element_of (first_type ts))) rs t (settles (on_array array_concat) ts rs h) here)
result_value (on_array array_get) ts rs may h t here =
    element_value (first_type ts) t (first_value (on_array array_get) ts rs may h) (only_value (element_of (first_type ts)) rs t (settles (on_array array_get) ts rs h) here)
result_value (on_array array_slice) ts rs may h t here =
    second_value (on_array array_slice) ts rs may h t (only_value (second_type ts) rs t (settles (on_array array_slice) ts rs h) here)
result_value (on_array array_inject) ts rs may h t here =
    first_value (on_array array_inject) ts rs may h t (only_value (first_type ts) rs t (settles (on_array array_inject) ts rs h) here)
result_value (on_struct struct_create) ts rs may h t here =
    first_value (on_struct struct_create) ts rs may h t (only_value (first_type ts) rs t (settles (on_struct struct_create) ts rs h) here)
result_value (on_struct (struct_extract name)) ts rs may h t here =
    field_of_value (first_type ts) name t (first_value (on_struct (struct_extract name)) ts rs may h)
    (only_value (field_of (first_type ts) name) rs t (settles (on_struct (struct_extract name)) ts rs h) here)
result_value (on_struct (struct_inject name)) ts rs may h t here =
    first_value (on_struct (struct_inject name)) ts rs may h t (only_value (first_type ts) rs t (settles (on_struct (struct_inject name)) ts rs h) here)
result_value (on_struct struct_explode) ts rs may h t here =
    fields_of_value (first_type ts) t (first_value (on_struct struct_explode) ts rs may h)
    (subst (λ ys. In (Some t) ys) (sym (settles (on_struct struct_explode) ts rs h)) (In-map (λ (u : HwType). Some u) t rs here))
result_value bitcast ts rs may h t here = second_value bitcast ts rs may h t (only_value (second_type ts) rs t (settles bitcast ts rs h) here)
result_value wire ts rs may h t here = first_value wire ts rs may h t (only_value (first_type ts) rs t (settles wire ts rs h) here)
result_value (register f r) ts rs may h t here =
    first_value (register f r) ts rs may h t (only_value (first_type ts) rs t (settles (register f r) ts rs h) here)
result_value async_firreg ts rs may h t here = first_value async_firreg ts rs may h t (only_value (first_type ts) rs t (settles async_firreg ts rs h) here)
result_value kind ts rs may h t here = cc
