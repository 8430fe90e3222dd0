-- The types of the results of an operation that is not refused by itself, where it is of no aggregates: each is written, or
-- an integer that the operation makes.
use Rattle.std.proofs.Common.{◌≡◌, ℕ, zero, suc, ◌+◌, ◌≤◌, ◌<◌, ◌==◌, nat_lt, max, Bool, false, List, [], ◌∷◌, drop, length, Option, Some, None, refl, sym, ap, ◌∙◌, subst, inl, inr, arith}
use Rattle.std.proofs.lemmas.Bool.{ltb-false}
use Rattle.std.specs.List.{list_any}
use Rattle.wiring.specs.Wiring.{In}
use Rattle.hw_model.specs.Types.{HwType, width}
use Rattle.hw_model.specs.Types.HwType.{int, clock, array, struct}
use Rattle.hw_model.specs.Kinds.{Kind}
use Rattle.hw_model.specs.Kinds.Kind.{variadic, sub, division, shift, extract, concat, replicate, mux, constant, aggregate_constant, on_array, on_struct, bitcast, wire, instance, output, register, async_firreg}
use Rattle.type_inference.specs.ResultTypes.{first_type, second_type, with_width, joined_width, kept_size, as_int, result_type, result_types}
use Rattle.op_checks.specs.TypeChecks.{has_bad_part, is_outside, is_clock}
use Rattle.op_checks.specs.TypeLists.{known_types}
use Rattle.op_checks.specs.LimitChecks.{value_types, is_too_wide, has_wide_concat}
use Rattle.op_checks.specs.CountChecks.{operands_written, operand_count, type_count}
use Rattle.op_checks.proofs.Widths.{neither}
use Rattle.verilog_expr.specs.Values.{is_aggregate_kind}
use Rattle.export_verilog.specs.Aggregates.{is_aggregate}

-- ---- members

-- a test that holds of none holds of no member
pub none_of : {A : Type 0} (p : A → Bool) (xs : List A) → list_any p xs ≡ false → (x : A) → In x xs → p x ≡ false
none_of p [] h x here = absurd here
none_of p (y ∷ xs) h x (inl same) = ap p same ∙ (neither (p y) (list_any p xs) h).0
none_of p (y ∷ xs) h x (inr here) = none_of p xs (neither (p y) (list_any p xs) h).1 x here

-- nor of what is left after some
pub none_after : {A : Type 0} (p : A → Bool) (n : ℕ) (xs : List A) → list_any p xs ≡ false → list_any p (drop n xs) ≡ false
none_after p zero xs h = h
none_after p (suc n) [] h = h
none_after p (suc n) (x ∷ xs) h = none_after p n xs (neither (p x) (list_any p xs) h).1

same_settled : (ts us : List HwType) → known_types ts ≡ known_types us → ts ≡ us
same_settled [] [] h = refl
same_settled [] (u ∷ us) h = cc
same_settled (t ∷ ts) [] h = cc
same_settled (t ∷ ts) (u ∷ us) h =
    let e : t ≡ u = cc in
    let f : known_types ts ≡ known_types us = cc in
    let g : ts ≡ us = same_settled ts us f in cc

-- ---- where a type comes from

-- the type of a result is one of the types, or an integer of some bits
pub data IsGiven (ts : List HwType) (t : HwType) : Type 0 where
  written : In t ts → IsGiven ts t
  made : (w : ℕ) → t ≡ int w → 1 ≤ w → w < 129 → IsGiven ts t

module _ (ts : List HwType) (t : HwType) where
  in_single : (x : Option HwType) (rs : List HwType) → ((u : HwType) → x ≡ Some u → IsGiven ts u) → x ∷ [] ≡ known_types rs → In t rs → IsGiven ts t
  in_single x [] gives same here = absurd here
  in_single x (r ∷ []) gives same (inl e) = let f : x ≡ Some r = cc in subst (IsGiven ts) (sym e) (gives r f)
  in_single x (r ∷ []) gives same (inr here) = absurd here
  in_single x (r ∷ s ∷ rs) gives same here = cc

  first_given : (u : HwType) → first_type ts ≡ Some u → IsGiven ts u
  first_given u h = written (go ts h) where
    go : (us : List HwType) → first_type us ≡ Some u → In u us
    go [] h = cc
    go (v ∷ us) h = let e : v ≡ u = cc in inl (sym e)

  second_given : (u : HwType) → second_type ts ≡ Some u → IsGiven ts u
  second_given u h = written (go ts h) where
    go : (us : List HwType) → second_type us ≡ Some u → In u us
    go [] h = cc
    go (v ∷ []) h = cc
    go (v ∷ w ∷ us) h = let e : w ≡ u = cc in inr (inl (sym e))

  by_first : (rs : List HwType) → first_type ts ∷ [] ≡ known_types rs → In t rs → IsGiven ts t
  by_first rs same here = in_single (first_type ts) rs first_given same here

  by_second : (rs : List HwType) → second_type ts ∷ [] ≡ known_types rs → In t rs → IsGiven ts t
  by_second rs same here = in_single (second_type ts) rs second_given same here

  one_bit : (u : HwType) → Some (int 1) ≡ Some u → IsGiven ts u
  one_bit u h = let e : int 1 ≡ u = cc in made 1 (sym e) (omega arith) (omega arith)

-- ---- widths

pub some_bits : (w : ℕ) → is_outside (int w) ≡ false → 1 ≤ w
unfolding is_outside
some_bits zero h = cc
some_bits (suc w) h = omega arith

kept_some : (n : ℕ) → 1 ≤ n → 1 ≤ kept_size n
kept_some n h = omega (arith, h)

-- what is not above 128 bits
at_most : (n : ℕ) → nat_lt 128 n ≡ false → n < 129
at_most n h = let p = ltb-false 128 n h in omega (arith, p)

kept_small : (n : ℕ) → nat_lt 128 n ≡ false → kept_size n < 129
kept_small n h = let p = at_most n h in omega (arith, p)

small_bits : (w : ℕ) → is_outside (int w) ≡ false → w < 129
unfolding is_outside
small_bits w h = at_most w (neither (w == 0) (nat_lt 128 w) (neither (has_bad_part (int w)) _ h).0).1

-- joined integers that are not too wide have some bits
joined_given : (ts : List HwType) (us : List HwType) → 1 ≤ length us → list_any is_outside us ≡ false → is_too_wide (joined_width us) ≡ false
    → (u : HwType) → as_int (joined_width us) ≡ Some u → IsGiven ts u
joined_given ts [] some h wide u is = absurd (omega (arith, some))
joined_given ts (int v ∷ us) some h wide u is = go (joined_width us) wide is
  where
    outside : is_outside (int v) ≡ false
    outside = (neither (is_outside (int v)) (list_any is_outside us) h).0

    go : (x : Option ℕ) → is_too_wide (with_width (int v) x) ≡ false → as_int (with_width (int v) x) ≡ Some u → IsGiven ts u
    go None wide is = cc
    go (Some n) wide is =
        let e : int (kept_size (v + n)) ≡ u = cc in
        made (kept_size (v + n)) (sym e) (kept_some (v + n) (let p = some_bits v outside in omega (arith, p))) (kept_small (v + n) wide)
joined_given ts (clock ∷ us) some h wide u is = cc
joined_given ts (array n t ∷ us) some h wide u is = cc
joined_given ts (struct fs ∷ us) some h wide u is = cc

some_joined : (k n : ℕ) → n ≡ max 1 n → k ≡ n → 1 ≤ k
some_joined k n p q = omega (arith, p, q)

-- ---- results

pub given : (kind : Kind) (ts rs : List HwType) (n : ℕ) → is_aggregate_kind kind ≡ false → result_types kind ts n ≡ known_types rs → n ≡ operand_count kind ts n → length ts ≡ type_count kind n
    → list_any is_outside ts ≡ false → has_wide_concat kind ts ≡ false → (t : HwType) → In t rs → IsGiven (value_types kind ts) t
unfolding result_types result_type operands_written operand_count type_count has_wide_concat
given (variadic v) ts rs n plain same operands types h wide t here = by_first ts t rs same here
given sub ts rs n plain same operands types h wide t here = by_first ts t rs same here
given (division d) ts rs n plain same operands types h wide t here = by_first ts t rs same here
given (shift s) ts rs n plain same operands types h wide t here = by_first ts t rs same here
given (extract low) ts rs n plain same operands types h wide t here = by_second ts t rs same here
given concat ts rs n plain same operands types h wide t here =
    in_single ts t (as_int (joined_width ts)) rs (joined_given ts ts (some_joined (length ts) n operands types) h wide) same here
given replicate ts rs n plain same operands types h wide t here = by_second ts t rs same here
given mux ts rs n plain same operands types h wide t here = by_first ts t rs same here
given (constant z) ts rs n plain same operands types h wide t here = by_first ts t rs same here
given (aggregate_constant ls) ts rs n plain same operands types h wide t here = cc
given (on_array a) ts rs n plain same operands types h wide t here = cc
given (on_struct s) ts rs n plain same operands types h wide t here = cc
given bitcast ts rs n plain same operands types h wide t here = by_second ts t rs same here
given wire ts rs n plain same operands types h wide t here = by_first ts t rs same here
given (instance i) ts rs n plain same operands types h wide t here =
    written (subst (λ us. In t us) (sym (same_settled (drop (length i.inputs) ts) rs same)) here)
given output ts [] n plain same operands types h wide t here = absurd here
given output ts (r ∷ rs) n plain same operands types h wide t here = cc
given (register f r) ts rs n plain same operands types h wide t here = by_first ts t rs same here
given async_firreg ts rs n plain same operands types h wide t here = by_first ts t rs same here
given _ ts rs n plain same operands types h wide t here = in_single ts t (Some (int 1)) rs (one_bit ts t) same here

-- ---- values

-- a type of 1 to 128 bits
pub record HasSomeBits (t : HwType) : Type 0 where
  pub some : 1 ≤ width t
  pub small : width t < 129

pub within_limits : (t : HwType) → is_aggregate t ≡ false → is_outside t ≡ false → HasSomeBits t
within_limits (int w) plain h = record { some = some_bits w h; small = small_bits w h }
within_limits clock plain h = record { some = omega arith; small = omega arith }
within_limits (array n t) plain h = cc
within_limits (struct fs) plain h = cc

outside_among : (kind : Kind) (ts : List HwType) → list_any is_outside ts ≡ false → list_any is_outside (value_types kind ts) ≡ false
outside_among (instance i) ts h = none_after is_outside (length i.inputs) ts h
outside_among _ ts h = h

pub given_some : (kind : Kind) (ts : List HwType) (t : HwType) → is_aggregate t ≡ false → list_any is_outside ts ≡ false → IsGiven (value_types kind ts) t → HasSomeBits t
given_some kind ts t plain h (written here) = within_limits t plain (none_of is_outside (value_types kind ts) (outside_among kind ts h) t here)
given_some kind ts t plain h (made w is some small) = record { some = rw is some; small = rw is small }

pub given_value : (ts : List HwType) (t : HwType) → list_any is_clock ts ≡ false → IsGiven ts t → is_clock t ≡ false
given_value ts t h (written here) = none_of is_clock ts h t here
given_value ts t h (made w is some small) = rw is refl
