-- Each operation of a fit design is as its rule asks.
use Rattle.std.proofs.Common.{◌≡◌, ℕ, ◌^◌, ◌≤◌, Bool, true, false, not, ◌||◌, List, [], ◌∷◌, length, map, Option, Some, None, slice_get, refl, sym, ap, subst, ◌∙◌, inl, inr, arith}
use Rattle.std.specs.Prelude.{is_some}
use Rattle.std.specs.List.{list_any}
use Rattle.std.proofs.lemmas.Bool.{not-false}
use Rattle.std.proofs.lemmas.List.{length-map}
use Rattle.wiring.specs.Wiring.{In}
use Rattle.wiring.proofs.Members.{position_of_In}
use Rattle.hw_model.specs.Types.{Name, HwType, FieldTypes, width, leaves}
use Rattle.hw_model.specs.Types.HwType.{int, clock, array, struct}
use Rattle.hw_model.specs.Kinds.{Kind, Literals}
use Rattle.hw_model.specs.Kinds.Literal.{parts}
use Rattle.hw_model.specs.Kinds.ArrayOp.{array_create, array_concat, array_get, array_slice, array_inject}
use Rattle.hw_model.specs.Kinds.StructOp.{struct_create, struct_extract, struct_inject, struct_explode}
use Rattle.hw_model.specs.Kinds.Kind.{variadic, sub, division, shift, extract, concat, replicate, mux, constant, aggregate_constant, on_array, on_struct, bitcast, wire, instance, output, register, async_firreg}
use Rattle.hw_model.specs.Value.{nth_type}
use Rattle.hw_model.specs.Design.{Ref, Op, Module, Design, find_module, is_instance}
use Rattle.hw_model.specs.Sound.{type_in, field_list}
use Rattle.type_inference.specs.ResultTypes.{first_type, second_type, joined_width, kept_size, as_int, element_of, fields_of, field_count, result_type as type_of_result, result_types as settled_types, result_count}
use Rattle.op_checks.specs.TypeChecks.{is_int}
use Rattle.op_checks.specs.TypeLists.{known_types, is_no_int, is_no_array, is_no_struct, differs, any_differs, differ, differ_in_three, settled_at}
use Rattle.op_checks.specs.LimitChecks.{is_width_of_index, are_unequal, is_no_index, is_longer, has_wrong_index, has_unequal_widths}
use Rattle.op_checks.specs.CountChecks.{operands_written, operand_count, type_count, parts_miscounted, has_miscounted_parts}
use Rattle.op_checks.specs.OperandChecks.{has_other_array, parts_differ, has_other_form, has_other_operand}
use Rattle.op_checks.specs.OwnChecks.{own_cause}
use Rattle.op_checks.proofs.Widths.{neither}
use Rattle.op_checks.proofs.Agreeing.{same_number, agreed, all_agreed, one_agreed, pairwise_agreed, single}
use Rattle.op_checks.proofs.FitIntegers.{apart, three_agreed}
use Rattle.op_checks.proofs.NoOwnCause.{NoOwnCause}
use Rattle.op_checks.proofs.Settled.{settles}
use Rattle.op_verifier.specs.OpChecks.{settled_type, divides_by_constant}
use Rattle.op_verifier.proofs.NoCauseAlone.{no_cause_alone}
use Rattle.port_checks.proofs.Least.{found_module}
use Rattle.acceptance_laws.specs.Keeps.{IsFit}
use Rattle.acceptance_laws.proofs.FitBodies.{own_cause_none, operand_there, settled_here}
use Rattle.aggregate_laws.specs.Leaves.{bare_kind, result_types}
use Rattle.aggregate_laws.specs.OperationRules.{literals_types}
use Rattle.aggregate_laws.specs.Aggregates.{is_scalar, index_bits, IsPlain, IsRegular}
use Rattle.aggregate_acceptance.proofs.IndexBits.{index_least}
use Rattle.aggregate_acceptance.proofs.LiteralTypes.{literal_leaves}

-- ---- lists of types

one_type : (rs : List HwType) → length rs ≡ 1 → (t : HwType) × (rs ≡ t ∷ [])
one_type [] n = absurd (omega arith)
one_type (t ∷ []) n = (t, refl)
one_type (t ∷ u ∷ rs) n = absurd (omega arith)

-- the only type that is settled
only_settled : (x : Option HwType) (rs : List HwType) → x ∷ [] ≡ known_types rs → (t : HwType) × (rs ≡ t ∷ []) × (x ≡ Some t)
only_settled x [] is = cc
only_settled x (t ∷ []) is = (t, refl, cc)
only_settled x (t ∷ u ∷ rs) is = cc

int_scalar : (t : HwType) → is_int t ≡ true → is_scalar t ≡ true
int_scalar (int w) is = refl
int_scalar clock is = cc
int_scalar (array n t) is = cc
int_scalar (struct fs) is = cc

-- each of the written types is an integer's
integers : (ts : List HwType) → list_any (λ (t : HwType). not (is_int t)) ts ≡ false → (t : HwType) → In t ts → is_scalar t ≡ true
integers [] none t here = absurd here
integers (u ∷ ts) none t (inl same) =
    ap is_scalar same ∙ int_scalar u (not-false (is_int u) (neither (not (is_int u)) (list_any (λ (v : HwType). not (is_int v)) ts) none).0)
integers (u ∷ ts) none t (inr here) = integers ts (neither (not (is_int u)) (list_any (λ (v : HwType). not (is_int v)) ts) none).1 t here

first_among : (ts : List HwType) (t : HwType) → first_type ts ≡ Some t → In t ts
first_among [] t is = cc
first_among (u ∷ ts) t is = let same : t ≡ u = cc in inl same

second_among : (ts : List HwType) (t : HwType) → second_type ts ≡ Some t → In t ts
second_among [] t is = cc
second_among (u ∷ ts) t is = inr (first_among ts t is)

-- operands that do not differ from the first type, where there is one
alike_scalars : (ts us : List HwType) → length ts ≡ 1 → list_any (λ (t : HwType). not (is_int t)) ts ≡ false → any_differs (known_types us) (first_type ts) ≡ false
    → (u : HwType) → In u us → is_scalar u ≡ true
alike_scalars [] us n form same u here = absurd (omega arith)
alike_scalars (t ∷ ts) us n form same u here = go us same here
  where
    go : (us : List HwType) → any_differs (known_types us) (Some t) ≡ false → In u us → is_scalar u ≡ true
    go [] h there = absurd there
    go (v ∷ vs) h (inl is) =
        ap is_scalar (is ∙ agreed v t (neither (differs (Some v) (Some t)) (any_differs (known_types vs) (Some t)) h).0) ∙ integers (t ∷ ts) form t (inl refl)
    go (v ∷ vs) h (inr there) = go vs (neither (differs (Some v) (Some t)) (any_differs (known_types vs) (Some t)) h).1 there

more_scalars : (ts us : List HwType) → length ts ≡ 2 → list_any (λ (t : HwType). not (is_int t)) ts ≡ false → any_differs (known_types us) (first_type ts) ≡ false
    → (u : HwType) → In u us → is_scalar u ≡ true
more_scalars [] us n form same u here = absurd (omega arith)
more_scalars (t ∷ ts) us n form same u here = go us same here
  where
    go : (us : List HwType) → any_differs (known_types us) (Some t) ≡ false → In u us → is_scalar u ≡ true
    go [] h there = absurd there
    go (v ∷ vs) h (inl is) =
        ap is_scalar (is ∙ agreed v t (neither (differs (Some v) (Some t)) (any_differs (known_types vs) (Some t)) h).0) ∙ integers (t ∷ ts) form t (inl refl)
    go (v ∷ vs) h (inr there) = go vs (neither (differs (Some v) (Some t)) (any_differs (known_types vs) (Some t)) h).1 there

joined_scalar : (y : Option ℕ) (t : HwType) → as_int y ≡ Some t → is_scalar t ≡ true
joined_scalar None t is = cc
joined_scalar (Some w) t is = let same : t ≡ int (kept_size w) = cc in ap is_scalar same

-- ---- operations by their types

-- the same bits
cast_types : (ts rs us : List HwType) → length ts ≡ 2 → length rs ≡ 1 → length us ≡ 1 → any_differs (known_types us) (first_type ts) ≡ false
    → differ (known_types rs) (second_type ts ∷ []) ≡ false → are_unequal (first_type ts) (second_type ts) ≡ false
    → (u : HwType) × (t : HwType) × (rs ≡ t ∷ []) × (known_types us ≡ Some u ∷ []) × (nth_type ts 0 ≡ u) × (width u ≡ width t)
cast_types [] rs us n m o h d e = absurd (omega arith)
cast_types (u ∷ []) rs us n m o h d e = absurd (omega arith)
cast_types (u ∷ v ∷ []) rs us n m o h d e =
    let one = one_type rs m in
    let same : one.0 ≡ v = single rs v one.0 0 m d (ap (λ (xs : List HwType). slice_get xs 0) one.1) in
    (u, one.0, one.1, one_agreed us u o (all_agreed us u h), refl, same_number (width u) (width v) e ∙ ap width (sym same))
cast_types (u ∷ v ∷ w ∷ ts) rs us n m o h d e = absurd (omega arith)

-- a constant of an aggregate type
constant_types : (ls : Literals) (ts rs : List HwType) → length ts ≡ 1 → length rs ≡ 1 → parts_differ ls (first_type ts) ≡ false → parts_miscounted ls (first_type ts) ≡ false
    → differ (known_types rs) (first_type ts ∷ []) ≡ false → (t : HwType) × (rs ≡ t ∷ []) × (literals_types ls ≡ leaves t)
constant_types ls [] rs n m h c d = absurd (omega arith)
constant_types ls (u ∷ []) rs n m h c d =
    let one = one_type rs m in
    let same : one.0 ≡ u = single rs u one.0 0 m d (ap (λ (xs : List HwType). slice_get xs 0) one.1) in
    (one.0, one.1, literal_leaves (parts ls) u h c ∙ ap leaves (sym same))
constant_types ls (u ∷ v ∷ ts) rs n m h c d = absurd (omega arith)

-- a test of an index's width
index_is : (n w : ℕ) → not (is_width_of_index n w) ≡ false → (w ≡ index_bits n) × (n ≤ 2 ^ w)
index_is n w h = index_least n w (not-false (is_width_of_index n w) h)

-- an element
get_types : (ts rs us : List HwType) → length ts ≡ 2 → length us ≡ 2 → length rs ≡ 1 → is_no_array (first_type ts) || is_no_int (second_type ts) ≡ false
    → differ (known_types us) (known_types ts) ≡ false → differ (known_types rs) (element_of (first_type ts) ∷ []) ≡ false → is_no_index (first_type ts) (second_type ts) ≡ false
    → (n : ℕ) × (w : ℕ) × (t : HwType) × (rs ≡ t ∷ []) × (known_types us ≡ Some (array n t) ∷ Some (int w) ∷ [])
    × (nth_type ts 0 ≡ array n t) × (nth_type ts 1 ≡ int w) × (n ≤ 2 ^ w)
get_types [] rs us n m o f h d i = absurd (omega arith)
get_types (u ∷ []) rs us n m o f h d i = absurd (omega arith)
get_types (array c e ∷ int w ∷ []) rs us n m o f h d i =
    let one = one_type rs o in
    let same : one.0 ≡ e = single rs e one.0 0 o d (ap (λ (xs : List HwType). slice_get xs 0) one.1) in
    let all : us ≡ array c e ∷ int w ∷ [] = pairwise_agreed us (array c e ∷ int w ∷ []) m h in (
      c,
      w,
      one.0,
      one.1,
      ap known_types all ∙ ap (λ (t : HwType). Some (array c t) ∷ Some (int w) ∷ []) (sym same),
      ap (array c) (sym same),
      refl,
      (index_is c w i).1,
    )
get_types (array c e ∷ clock ∷ []) rs us n m o f h d i = absurd (apart f)
get_types (array c e ∷ array k t ∷ []) rs us n m o f h d i = absurd (apart f)
get_types (array c e ∷ struct fs ∷ []) rs us n m o f h d i = absurd (apart f)
get_types (int w ∷ v ∷ []) rs us n m o f h d i = absurd (apart f)
get_types (clock ∷ v ∷ []) rs us n m o f h d i = absurd (apart f)
get_types (struct fs ∷ v ∷ []) rs us n m o f h d i = absurd (apart f)
get_types (u ∷ v ∷ w ∷ ts) rs us n m o f h d i = absurd (omega arith)

-- the second operand of two, an integer
index_operand : (us : List HwType) (t : HwType) → length us ≡ 2 → differs (settled_at (known_types us) 0) (Some t) ≡ false → is_no_int (settled_at (known_types us) 1) ≡ false
    → (w : ℕ) × (us ≡ t ∷ int w ∷ [])
index_operand [] t n h i = absurd (omega arith)
index_operand (a ∷ []) t n h i = absurd (omega arith)
index_operand (a ∷ int w ∷ []) t n h i = let e : a ≡ t = agreed a t h in (w, cc)
index_operand (a ∷ clock ∷ []) t n h i = absurd (apart i)
index_operand (a ∷ array k e ∷ []) t n h i = absurd (apart i)
index_operand (a ∷ struct fs ∷ []) t n h i = absurd (apart i)
index_operand (a ∷ b ∷ c ∷ us) t n h i = absurd (omega arith)

-- a part of an array
slice_types : (ts rs us : List HwType) → length ts ≡ 2 → length us ≡ 2 → length rs ≡ 1 → has_other_array ts ≡ false
    → differs (settled_at (known_types us) 0) (first_type ts) || is_no_int (settled_at (known_types us) 1) ≡ false
    → differ (known_types rs) (second_type ts ∷ []) ≡ false → is_no_index (first_type ts) (settled_at (known_types us) 1) || is_longer (first_type ts) (second_type ts) ≡ false
    → (n : ℕ) × (k : ℕ) × (e : HwType) × (rs ≡ array k e ∷ []) × (known_types us ≡ Some (array n e) ∷ Some (int (index_bits n)) ∷ [])
    × (nth_type ts 0 ≡ array n e) × (n ≤ 2 ^ index_bits n)
slice_types [] rs us n m o f h d i = absurd (omega arith)
slice_types (u ∷ []) rs us n m o f h d i = absurd (omega arith)
slice_types (array c e ∷ array k t ∷ []) rs us n m o f h d i =
    let p = neither (differs (Some e) (Some e)) _ f in
    let q = neither (differs (Some t) (Some e)) _ p.1 in
    let alike : t ≡ e = agreed t e q.0 in
    let one = one_type rs o in
    let same : one.0 ≡ array k t = single rs (array k t) one.0 0 o d (ap (λ (xs : List HwType). slice_get xs 0) one.1) in
    let parts_h = neither (differs (settled_at (known_types us) 0) (Some (array c e))) _ h in
    let found = index_operand us (array c e) m parts_h.0 parts_h.1 in
    let wide = neither (is_no_index (Some (array c e)) (settled_at (known_types us) 1)) _ i in
    let least = index_is c found.0 (ap (λ (xs : List HwType). is_no_index (Some (array c e)) (settled_at (known_types xs) 1)) (sym found.1) ∙ wide.0) in (
      c,
      k,
      e,
      one.1 ∙ ap (λ (x : HwType). x ∷ []) (same ∙ ap (array k) alike),
      ap known_types found.1 ∙ ap (λ (w : ℕ). Some (array c e) ∷ Some (int w) ∷ []) least.0,
      refl,
      subst (λ (w : ℕ). c ≤ 2 ^ w) least.0 least.1,
    )
slice_types (array c e ∷ int w ∷ []) rs us n m o f h d i = absurd (apart ((neither (differs (Some e) (Some e)) _ f).1))
slice_types (array c e ∷ clock ∷ []) rs us n m o f h d i = absurd (apart ((neither (differs (Some e) (Some e)) _ f).1))
slice_types (array c e ∷ struct fs ∷ []) rs us n m o f h d i = absurd (apart ((neither (differs (Some e) (Some e)) _ f).1))
slice_types (int w ∷ v ∷ []) rs us n m o f h d i = absurd (apart f)
slice_types (clock ∷ v ∷ []) rs us n m o f h d i = absurd (apart f)
slice_types (struct fs ∷ v ∷ []) rs us n m o f h d i = absurd (apart f)
slice_types (u ∷ v ∷ w ∷ ts) rs us n m o f h d i = absurd (omega arith)

-- an array with another element
inject_types : (ts rs us : List HwType) → length ts ≡ 2 → length us ≡ 3 → length rs ≡ 1 → is_no_array (first_type ts) || is_no_int (second_type ts) ≡ false
    → differ_in_three (known_types us) (first_type ts) (second_type ts) (element_of (first_type ts)) ≡ false → differ (known_types rs) (first_type ts ∷ []) ≡ false
    → is_no_index (first_type ts) (second_type ts) ≡ false
    → (n : ℕ) × (w : ℕ) × (e : HwType) × (rs ≡ array n e ∷ []) × (known_types us ≡ Some (array n e) ∷ Some (int w) ∷ Some e ∷ [])
    × (nth_type ts 0 ≡ array n e) × (nth_type ts 1 ≡ int w) × (n ≤ 2 ^ w)
inject_types [] rs us n m o f h d i = absurd (omega arith)
inject_types (u ∷ []) rs us n m o f h d i = absurd (omega arith)
inject_types (array c e ∷ int w ∷ []) rs us n m o f h d i =
    let one = one_type rs o in
    let same : one.0 ≡ array c e = single rs (array c e) one.0 0 o d (ap (λ (xs : List HwType). slice_get xs 0) one.1) in
    (c, w, e, one.1 ∙ ap (λ (x : HwType). x ∷ []) same, three_agreed us (array c e) (int w) e m h, refl, refl, (index_is c w i).1)
inject_types (array c e ∷ clock ∷ []) rs us n m o f h d i = absurd (apart f)
inject_types (array c e ∷ array k t ∷ []) rs us n m o f h d i = absurd (apart f)
inject_types (array c e ∷ struct fs ∷ []) rs us n m o f h d i = absurd (apart f)
inject_types (int w ∷ v ∷ []) rs us n m o f h d i = absurd (apart f)
inject_types (clock ∷ v ∷ []) rs us n m o f h d i = absurd (apart f)
inject_types (struct fs ∷ v ∷ []) rs us n m o f h d i = absurd (apart f)
inject_types (u ∷ v ∷ w ∷ ts) rs us n m o f h d i = absurd (omega arith)

-- the fields of a struct
explode_types : (ts rs us : List HwType) → length ts ≡ 1 → length us ≡ 1 → length rs ≡ field_count (first_type ts) → is_no_struct (first_type ts) ≡ false
    → any_differs (known_types us) (first_type ts) ≡ false → differ (known_types rs) (fields_of (first_type ts)) ≡ false
    → (fs : FieldTypes) × (nth_type ts 0 ≡ struct fs) × (known_types us ≡ Some (struct fs) ∷ []) × (rs ≡ field_list fs)
explode_types [] rs us n m o f h d = absurd (omega arith)
explode_types (struct fs ∷ []) rs us n m o f h d = (fs, refl, one_agreed us (struct fs) m (all_agreed us (struct fs) h), pairwise_agreed rs (field_list fs) o d)
explode_types (int w ∷ []) rs us n m o f h d = absurd (apart f)
explode_types (clock ∷ []) rs us n m o f h d = absurd (apart f)
explode_types (array c e ∷ []) rs us n m o f h d = absurd (apart f)
explode_types (u ∷ v ∷ ts) rs us n m o f h d = absurd (omega arith)

-- ---- an operation by its kind

module _ (named : Op → Kind) (old_type : Ref → Option HwType) (o : Op) (us : List HwType) (given : map old_type o.operands ≡ known_types us) where
  -- the only result is settled so, and is no aggregate
  plain : (x : Option HwType) → x ∷ [] ≡ known_types (result_types o) → ((t : HwType) → x ≡ Some t → is_scalar t ≡ true) → ((u : HwType) → In u us → is_scalar u ≡ true)
      → IsPlain old_type o
  plain x settled scalar scalars =
      let one = only_settled x (result_types o) settled in
      record { type = one.0; one = one.1; scalar = scalar one.0 one.2; operand_types = us; operands = given; scalars = scalars }

  -- so where it has the first of the written types, and its operands have it
  plain_alike : length o.types ≡ 1 → list_any (λ (t : HwType). not (is_int t)) o.types ≡ false → any_differs (known_types us) (first_type o.types) ≡ false
      → first_type o.types ∷ [] ≡ known_types (result_types o) → IsPlain old_type o
  plain_alike count form same settled =
      plain (first_type o.types) settled (λ t is. integers o.types form t (first_among o.types t is)) (alike_scalars o.types us count form same)

  plain_bit : length o.types ≡ 1 → list_any (λ (t : HwType). not (is_int t)) o.types ≡ false → any_differs (known_types us) (first_type o.types) ≡ false
      → Some (int 1) ∷ [] ≡ known_types (result_types o) → IsPlain old_type o
  plain_bit count form same settled =
      plain (Some (int 1)) settled (λ t is. let one : t ≡ int 1 = cc in ap is_scalar one) (alike_scalars o.types us count form same)

  plain_other : length o.types ≡ 2 → list_any (λ (t : HwType). not (is_int t)) o.types ≡ false → any_differs (known_types us) (first_type o.types) ≡ false
      → second_type o.types ∷ [] ≡ known_types (result_types o) → IsPlain old_type o
  plain_other count form same settled =
      plain (second_type o.types) settled (λ t is. integers o.types form t (second_among o.types t is)) (more_scalars o.types us count form same)

  no_operands : length us ≡ 0 → (u : HwType) → In u us → is_scalar u ≡ true
  no_operands none u here = go us none here
    where
      go : (vs : List HwType) → length vs ≡ 0 → In u vs → is_scalar u ≡ true
      go [] n there = absurd there
      go (v ∷ vs) n there = absurd (omega arith)

  regular_kind : {count : ℕ} {known : Bool} (kind : Kind) → o.kind ≡ kind → (is_instance o ≡ true → bare_kind (named o) ≡ bare_kind o.kind)
      → NoOwnCause kind o.types (result_types o) count (length us) (known_types us) known → IsRegular named old_type o kind
  unfolding has_other_form has_other_operand operands_written operand_count type_count type_of_result settled_types result_count has_wrong_index has_unequal_widths has_miscounted_parts
  regular_kind mux is names h = one_type (result_types o) h.results
  regular_kind wire is names h = one_type (result_types o) h.results
  regular_kind bitcast is names h =
      let found = cast_types o.types (result_types o) us h.types h.results h.operands h.operand h.result h.widths in
      (found.0, found.1, found.2, given ∙ found.3, found.4, found.5)
  regular_kind (aggregate_constant ls) is names h = constant_types ls o.types (result_types o) h.types h.results h.operand h.parts h.result
  regular_kind (on_array array_create) is names h = one_type (result_types o) h.results
  regular_kind (on_array array_concat) is names h = one_type (result_types o) h.results
  regular_kind (on_array array_get) is names h =
      let found = get_types o.types (result_types o) us h.types h.operands h.results h.form h.operand h.result h.index in
      (found.0, found.1, found.2, found.3, given ∙ found.4, found.5, found.6, found.7)
  regular_kind (on_array array_slice) is names h =
      let found = slice_types o.types (result_types o) us h.types h.operands h.results h.form h.operand h.result h.index in
      (found.0, found.1, found.2, found.3, given ∙ found.4, found.5, found.6)
  regular_kind (on_array array_inject) is names h =
      let found = inject_types o.types (result_types o) us h.types h.operands h.results h.form h.operand h.result h.index in
      (found.0, found.1, found.2, found.3, given ∙ found.4, found.5, found.6, found.7)
  regular_kind (on_struct struct_create) is names h = one_type (result_types o) h.results
  regular_kind (on_struct (struct_extract name)) is names h = one_type (result_types o) h.results
  regular_kind (on_struct (struct_inject name)) is names h = one_type (result_types o) h.results
  regular_kind (on_struct struct_explode) is names h =
      let found = explode_types o.types (result_types o) us h.types h.operands h.results h.form h.operand h.result in
      (found.0, found.1, given ∙ found.2, found.3)
  regular_kind (instance i) is names h = names (ap (λ k. is_instance (record o { kind = k })) is)
  regular_kind output is names h = tt
  regular_kind (register f r) is names h = one_type (result_types o) h.results
  regular_kind async_firreg is names h = one_type (result_types o) h.results
  regular_kind (variadic v) is names h = plain_alike h.types h.form h.operand (settles (variadic v) o.types (result_types o) h)
  regular_kind sub is names h = plain_alike h.types h.form h.operand (settles sub o.types (result_types o) h)
  regular_kind (division v) is names h = plain_alike h.types h.form h.operand (settles (division v) o.types (result_types o) h)
  regular_kind (shift v) is names h = plain_alike h.types h.form h.operand (settles (shift v) o.types (result_types o) h)
  regular_kind (extract low) is names h = plain_other h.types h.form h.operand (settles (extract low) o.types (result_types o) h)
  regular_kind replicate is names h = plain_other h.types h.form h.operand (settles replicate o.types (result_types o) h)
  regular_kind concat is names h =
      plain (as_int (joined_width o.types)) (settles concat o.types (result_types o) h) (joined_scalar (joined_width o.types))
      (λ u here. integers o.types h.form u (subst (In u) (pairwise_agreed us o.types (sym h.types) h.operand) here))
  regular_kind (constant z) is names h =
      plain (first_type o.types) (settles (constant z) o.types (result_types o) h) (λ t is_t. integers o.types h.form t (first_among o.types t is_t)) (no_operands h.operands)
  regular_kind k is names h = plain_bit h.types h.form h.operand (settles k o.types (result_types o) h)

-- ---- operations of a fit design

module _ (d : Design) (fit : IsFit d) (k : ℕ) (m : Module) (at : slice_get d k ≡ Some m) where
  -- the types of values that are there
  types_there : (rs : List Ref) → ((r : Ref) → In r rs → is_some (type_in m.ports m.body r) ≡ true) → (us : List HwType) × (map (type_in m.ports m.body) rs ≡ known_types us)
  types_there [] all = ([], refl)
  types_there (r ∷ rs) all = go (type_in m.ports m.body r) refl (all r (inl refl)) (types_there rs (λ q here. all q (inr here)))
    where
      go : (x : Option HwType) → type_in m.ports m.body r ≡ x → is_some (type_in m.ports m.body r) ≡ true → (us : List HwType) × (map (type_in m.ports m.body) rs ≡ known_types us)
          → (us : List HwType) × (type_in m.ports m.body r ∷ map (type_in m.ports m.body) rs ≡ known_types us)
      go None is there rest = let clash : false ≡ true = ap is_some (sym is) ∙ there in cc
      go (Some t) is there (us, same) = (
        t ∷ us,
        ap (λ (x : Option HwType). x ∷ map (type_in m.ports m.body) rs) is ∙ ap (λ (xs : List (Option HwType)). Some t ∷ xs) same,
      )

  settled_all : (rs : List Ref) → map (settled_type m.ports m.body) rs ≡ map (type_in m.ports m.body) rs
  settled_all [] = refl
  settled_all (r ∷ rs) =
      ap (λ (x : Option HwType). x ∷ map (settled_type m.ports m.body) rs) (settled_here d fit k m at r)
      ∙ ap (λ (xs : List (Option HwType)). type_in m.ports m.body r ∷ xs) (settled_all rs)

  -- what is known of an operation whose operands have types
  pub record IsTyped (o : Op) : Type 0 where
    pub us : List HwType
    pub operands : map (type_in m.ports m.body) o.operands ≡ known_types us
    pub none : NoOwnCause o.kind o.types (result_types o) o.named (length us) (known_types us) (divides_by_constant m.body o.operands)
    pub alone : own_cause o.kind o.types (result_types o) o.named (known_types us) (divides_by_constant m.body o.operands) ≡ None

  pub typed_op : (j : ℕ) (o : Op) → slice_get m.body j ≡ Some o → IsTyped o
  typed_op j o is =
      let own = no_cause_alone m.ports m.body o (own_cause_none d fit k m at j o is) in
      let found = types_there o.operands (λ r here. operand_there d fit k m at j o r is here) in
      let same : map (settled_type m.ports m.body) o.operands ≡ known_types found.0 = settled_all o.operands ∙ found.1 in
      let count : length o.operands ≡ length found.0 =
      sym (length-map o.operands (settled_type m.ports m.body)) ∙ ap length same ∙ length-map found.0 (λ (t : HwType). Some t) in
      record {
        us = found.0;
        operands = found.1;
        none = subst (λ n. NoOwnCause o.kind o.types (result_types o) o.named n (known_types found.0) (divides_by_constant m.body o.operands)) count
            (subst (λ xs. NoOwnCause o.kind o.types (result_types o) o.named (length o.operands) xs (divides_by_constant m.body o.operands)) same own);
        alone = ap (λ xs. own_cause o.kind o.types (result_types o) o.named xs (divides_by_constant m.body o.operands)) (sym same) ∙ own_cause_none d fit k m at j o is;
      }

  pub regular_op : (named : Op → Kind) (j : ℕ) (o : Op) → slice_get m.body j ≡ Some o → (is_instance o ≡ true → bare_kind (named o) ≡ bare_kind o.kind)
      → IsRegular named (type_in m.ports m.body) o o.kind
  regular_op named j o is names =
      let typed = typed_op j o is in
      regular_kind named (type_in m.ports m.body) o typed.us typed.operands o.kind refl names typed.none

pub all_regular : (d : Design) (named : Op → Kind) → IsFit d → ((o : Op) → is_instance o ≡ true → bare_kind (named o) ≡ bare_kind o.kind)
    → (s : Name) (m : Module) → find_module d s ≡ Some m → (o : Op) → In o m.body → IsRegular named (type_in m.ports m.body) o o.kind
all_regular d named fit names s m found o here =
    let position = position_of_In m d (found_module d s m found) in
    let spot = position_of_In o m.body here in
    regular_op d fit position.0 m position.1 named spot.0 o spot.1 (names o)
