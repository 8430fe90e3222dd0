-- The types that an operation settles for its results, where nothing is refused of it by itself: they are those of its results.
use Rattle.std.proofs.Common.{◌≡◌, ℕ, ◌+◌, max, Bool, false, cond, not, List, [], ◌∷◌, drop, length, Option, Some, None, refl, sym, ap, ◌∙◌, arith}
use Rattle.std.specs.List.{list_any}
use Rattle.std.proofs.lemmas.List.{length-drop}
use Rattle.hw_model.specs.Types.{HwType}
use Rattle.hw_model.specs.Types.HwType.{int, clock, array, struct}
use Rattle.hw_model.specs.Kinds.{Kind}
use Rattle.hw_model.specs.Kinds.ArrayOp.{array_create, array_concat, array_get, array_slice, array_inject}
use Rattle.hw_model.specs.Kinds.StructOp.{struct_create, struct_extract, struct_inject, struct_explode}
use Rattle.hw_model.specs.Kinds.Kind.{variadic, sub, division, shift, extract, concat, replicate, mux, constant, aggregate_constant, on_array, on_struct, bitcast, wire, instance, output, register, async_firreg}
use Rattle.hw_model.specs.Sound.{field_list}
use Rattle.hw_model.specs.SameType.{same_type}
use Rattle.type_inference.specs.ResultTypes.{first_type, second_type, with_width, joined_width, elements_in, sum_of, length_joined, joined_length, kept_size, as_int, as_array, array_of, element_of}
use Rattle.type_inference.specs.ResultTypes.{field_of, fields_of, field_count, result_type, result_types, result_count}
use Rattle.op_checks.specs.TypeChecks.{is_int}
use Rattle.op_checks.specs.TypeLists.{known_types, is_no_int, is_no_array, differ}
use Rattle.op_checks.specs.OperandChecks.{is_no_array_of, has_other_array, has_other_form}
use Rattle.op_checks.specs.LimitChecks.{has_unknown_field}
use Rattle.op_checks.specs.CountChecks.{operands_written, operand_count, type_count}
use Rattle.op_checks.proofs.Widths.{neither}
use Rattle.op_checks.proofs.Agreeing.{pairwise_agreed}
use Rattle.op_checks.proofs.NoOwnCause.{NoOwnCause}
use Rattle.op_checks.proofs.FitStructs.{is_some_type}
use Rattle.std.proofs.lemmas.Bool.{not-false}

-- ---- the types that are settled

-- types, so many
pub record Settles (xs : List (Option HwType)) (count : ℕ) : Type 0 where
  pub us : List HwType
  pub same : xs ≡ known_types us
  pub number : length us ≡ count

one : (x : Option HwType) (t : HwType) → x ≡ Some t → Settles (x ∷ []) 1
one x t e = record { us = t ∷ []; same = ap (λ (y : Option HwType). y ∷ []) e; number = refl }

-- the first of one type or two, and the second
first_of_one : (ts : List HwType) → length ts ≡ 1 → (t : HwType) × (first_type ts ≡ Some t)
first_of_one [] n = absurd (omega arith)
first_of_one (t ∷ ts) n = (t, refl)

first_of_two : (ts : List HwType) → length ts ≡ 2 → (t : HwType) × (first_type ts ≡ Some t)
first_of_two [] n = absurd (omega arith)
first_of_two (t ∷ ts) n = (t, refl)

second_of_two : (ts : List HwType) → length ts ≡ 2 → (t : HwType) × (second_type ts ≡ Some t)
second_of_two [] n = absurd (omega arith)
second_of_two (t ∷ []) n = absurd (omega arith)
second_of_two (t ∷ u ∷ ts) n = (u, refl)

by_first : (ts : List HwType) → length ts ≡ 1 → Settles (first_type ts ∷ []) 1
by_first ts n = let t = first_of_one ts n in one (first_type ts) t.0 t.1

by_second : (ts : List HwType) → length ts ≡ 2 → Settles (second_type ts ∷ []) 1
by_second ts n = let t = second_of_two ts n in one (second_type ts) t.0 t.1

-- joined integers
width_known : (ts : List HwType) → list_any (λ (t : HwType). not (is_int t)) ts ≡ false → (w : ℕ) × (joined_width ts ≡ Some w)
width_known [] h = (0, refl)
width_known (int v ∷ ts) h =
    let rest = width_known ts h in
    (v + rest.0, ap (with_width (int v)) rest.1)
width_known (clock ∷ ts) h = cc
width_known (array n t ∷ ts) h = cc
width_known (struct fs ∷ ts) h = cc

-- joined arrays
length_known : (e : HwType) (ts : List HwType) → list_any (is_no_array_of (Some e)) ts ≡ false → (w : ℕ) × (length_joined (Some e) ts ≡ Some w)
length_known e [] h = (0, refl)
length_known e (array n t ∷ ts) h =
    let split = neither (is_no_array_of (Some e) (array n t)) (list_any (is_no_array_of (Some e)) ts) h in
    let one : elements_in (Some e) (array n t) ≡ Some n = ap (λ b. cond b (Some n) None) (not-false (same_type t e) split.0) in
    let rest = length_known e ts split.1 in
    (n + rest.0, ap (λ m. sum_of m (length_joined (Some e) ts)) one ∙ ap (sum_of (Some n)) rest.1)
length_known e (int w ∷ ts) h = cc
length_known e (clock ∷ ts) h = cc
length_known e (struct fs ∷ ts) h = cc

element_known : (x : Option HwType) (t : HwType) → x ≡ Some t → is_no_array x ≡ false → (u : HwType) × (element_of x ≡ Some u)
element_known (Some (array n u)) t e h = (u, refl)
element_known (Some (int w)) t e h = cc
element_known (Some clock) t e h = cc
element_known (Some (struct fs)) t e h = cc
element_known None t e h = cc

joined_arrays : (ts : List HwType) (n : ℕ) → n ≡ max 1 n → length ts ≡ n → has_other_array ts ≡ false → Settles (array_of (joined_length ts) (element_of (first_type ts)) ∷ []) 1
unfolding joined_length
joined_arrays [] n some count h = absurd (omega (arith, some, count))
joined_arrays (array c e ∷ ts) n some count h =
    let w = length_known e (array c e ∷ ts) h in
    one (array_of (joined_length (array c e ∷ ts)) (Some e)) (array (kept_size w.0) e) (ap (λ (x : Option ℕ). array_of x (Some e)) w.1)
joined_arrays (int w ∷ ts) n some count h = cc
joined_arrays (clock ∷ ts) n some count h = cc
joined_arrays (struct fs ∷ ts) n some count h = cc

fields_known : (x : Option HwType) → Settles (fields_of x) (field_count x)
fields_known None = record { us = []; same = refl; number = refl }
fields_known (Some (int w)) = record { us = []; same = refl; number = refl }
fields_known (Some clock) = record { us = []; same = refl; number = refl }
fields_known (Some (array n t)) = record { us = []; same = refl; number = refl }
fields_known (Some (struct fs)) = record { us = field_list fs; same = refl; number = refl }

settles_all : (kind : Kind) (ts : List HwType) (n : ℕ) → has_other_form kind ts ≡ false → has_unknown_field kind ts ≡ false → n ≡ operand_count kind ts n → length ts ≡ type_count kind n
    → Settles (result_types kind ts n) (result_count kind ts)
unfolding result_types result_type result_count type_count operands_written operand_count has_other_form
settles_all (variadic v) ts n form field operands types = by_first ts types
settles_all sub ts n form field operands types = by_first ts types
settles_all (division d) ts n form field operands types = by_first ts types
settles_all (shift s) ts n form field operands types = by_first ts types
settles_all mux ts n form field operands types = by_first ts types
settles_all (constant z) ts n form field operands types = by_first ts types
settles_all (aggregate_constant ls) ts n form field operands types = by_first ts types
settles_all (on_struct struct_create) ts n form field operands types = by_first ts types
settles_all (on_struct (struct_inject name)) ts n form field operands types = by_first ts types
settles_all wire ts n form field operands types = by_first ts types
settles_all (register f r) ts n form field operands types = by_first ts types
settles_all async_firreg ts n form field operands types = by_first ts types
settles_all (extract low) ts n form field operands types = by_second ts types
settles_all replicate ts n form field operands types = by_second ts types
settles_all (on_array array_slice) ts n form field operands types = by_second ts types
settles_all bitcast ts n form field operands types = by_second ts types
settles_all concat ts n form field operands types =
    let w = width_known ts form in one (as_int (joined_width ts)) (int (kept_size w.0)) (ap as_int w.1)
settles_all (on_array array_create) ts n form field operands types =
    let t = first_of_one ts types in one (as_array n (first_type ts)) (array (kept_size n) t.0) (ap (as_array n) t.1)
settles_all (on_array array_concat) ts n form field operands types = joined_arrays ts n operands types form
settles_all (on_array array_get) ts n form field operands types =
    let t = first_of_two ts types in
    let u = element_known (first_type ts) t.0 t.1 (neither (is_no_array (first_type ts)) (is_no_int (second_type ts)) form).0 in
    one (element_of (first_type ts)) u.0 u.1
settles_all (on_array array_inject) ts n form field operands types = let t = first_of_two ts types in one (first_type ts) t.0 t.1
settles_all (on_struct (struct_extract name)) ts n form field operands types =
    let t = is_some_type (field_of (first_type ts) name) field in one (field_of (first_type ts) name) t.0 t.1
settles_all (on_struct struct_explode) ts n form field operands types = fields_known (first_type ts)
settles_all (instance i) ts n form field operands types =
    record { us = drop (length i.inputs) ts; same = refl; number = length-drop (length i.inputs) ts }
settles_all output ts n form field operands types = record { us = []; same = refl; number = refl }
settles_all _ ts n form field operands types = one (Some (int 1)) (int 1) refl

-- an operation without a cause of its own has results of the types that it settles
pub settles : {named n : ℕ} {xs : List (Option HwType)} {is_known : Bool} (kind : Kind) (ts rs : List HwType) → NoOwnCause kind ts rs named n xs is_known
    → result_types kind ts n ≡ known_types rs
settles {n = n} kind ts rs h =
    let s = settles_all kind ts n h.form h.field h.operands h.types in
    s.same ∙ ap known_types (sym (pairwise_agreed rs s.us (h.results ∙ sym s.number) (ap (differ (known_types rs)) (sym s.same) ∙ h.result)))
