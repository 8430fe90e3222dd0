-- Operations on integers without a cause fit.
use Rattle.std.proofs.Common.{◌≡◌, ℕ, ◌+◌, ◌*◌, ◌/◌, ◌%◌, ◌<◌, ◌≤◌, ◌==◌, true, false, not, ◌||◌, List, [], ◌∷◌, map, length, refl, sym, ap, subst, ◌∙◌, arith}
use Rattle.std.specs.Prelude.{Some, slice_get}
use Rattle.std.specs.List.{list_any}
use Rattle.std.proofs.lemmas.Bool.{ltb-false, eqb-true, not-false}
use Rattle.std.proofs.lemmas.Bool.Decides.{nat_tests}
use Rattle.wiring.specs.Lists.{total}
use Rattle.hw_model.specs.Types.{HwType, width}
use Rattle.hw_model.specs.Types.HwType.{int}
use Rattle.hw_model.specs.Sound.{AllAre}
use Rattle.type_inference.specs.ResultTypes.{first_type, second_type, joined_width, as_int, kept_size}
use Rattle.op_checks.specs.TypeChecks.{is_int}
use Rattle.op_checks.specs.TypeLists.{known_types, int_width, differs, any_differs, differ, differ_in_two, differ_in_three}
use Rattle.op_checks.specs.LimitChecks.{of_both, reaches_past, is_no_multiple, is_too_wide}
use Rattle.op_checks.proofs.Widths.{neither}
use Rattle.op_checks.proofs.Agreeing.{agreed, all_agreed, one_agreed, two_agreed, pairwise_agreed, single}

pub apart : true ≡ false → ⊥
apart h = cc

pub none_left : (us : List HwType) → length us ≡ 0 → known_types us ≡ []
none_left [] n = refl
none_left (u ∷ us) n = absurd (omega arith)

-- operands that all are of the written type, which is the result's too
pub variadic_fits : (ts rs us : List HwType) (k : ℕ) (t : HwType) → length ts ≡ 1 → length rs ≡ 1 → any_differs (known_types us) (first_type ts) ≡ false
    → differ (known_types rs) (first_type ts ∷ []) ≡ false → slice_get rs k ≡ Some t → AllAre t (known_types us)
variadic_fits [] rs us k t n m h d e = absurd (omega arith)
variadic_fits (u ∷ []) rs us k t n m h d e =
    let f : t ≡ u = single rs u t k m d e in
    let P : HwType → Type 0 = λ v. AllAre v (known_types us) in subst P (sym f) (all_agreed us u h)
variadic_fits (u ∷ v ∷ ts) rs us k t n m h d e = absurd (omega arith)

pub binary : (ts rs us : List HwType) (k : ℕ) (t : HwType) → length ts ≡ 1 → length rs ≡ 1 → length us ≡ 2 → any_differs (known_types us) (first_type ts) ≡ false
    → differ (known_types rs) (first_type ts ∷ []) ≡ false → slice_get rs k ≡ Some t → known_types us ≡ Some t ∷ Some t ∷ []
binary ts rs us k t n m o h d e = two_agreed us t o (variadic_fits ts rs us k t n m h d e)

pub unary : (ts rs us : List HwType) (k : ℕ) (t : HwType) → length ts ≡ 1 → length rs ≡ 1 → length us ≡ 1 → any_differs (known_types us) (first_type ts) ≡ false
    → differ (known_types rs) (first_type ts ∷ []) ≡ false → slice_get rs k ≡ Some t → known_types us ≡ Some t ∷ []
unary ts rs us k t n m o h d e = one_agreed us t o (variadic_fits ts rs us k t n m h d e)

-- a comparison and a parity give one bit
pub comparison : (ts rs us : List HwType) (k : ℕ) (t : HwType) → length ts ≡ 1 → length rs ≡ 1 → length us ≡ 2 → any_differs (known_types us) (first_type ts) ≡ false
    → differ (known_types rs) (Some (int 1) ∷ []) ≡ false → slice_get rs k ≡ Some t → (u : HwType) × (known_types us ≡ Some u ∷ Some u ∷ []) × (t ≡ int 1)
comparison [] rs us k t n m o h d e = absurd (omega arith)
comparison (u ∷ []) rs us k t n m o h d e = (u, two_agreed us u o (all_agreed us u h), single rs (int 1) t k m d e)
comparison (u ∷ v ∷ ts) rs us k t n m o h d e = absurd (omega arith)

pub parities : (ts rs us : List HwType) (k : ℕ) (t : HwType) → length ts ≡ 1 → length rs ≡ 1 → length us ≡ 1 → any_differs (known_types us) (first_type ts) ≡ false
    → differ (known_types rs) (Some (int 1) ∷ []) ≡ false → slice_get rs k ≡ Some t → (u : HwType) × (known_types us ≡ Some u ∷ []) × (t ≡ int 1)
parities [] rs us k t n m o h d e = absurd (omega arith)
parities (u ∷ []) rs us k t n m o h d e = (u, one_agreed us u o (all_agreed us u h), single rs (int 1) t k m d e)
parities (u ∷ v ∷ ts) rs us k t n m o h d e = absurd (omega arith)

-- an extract stays within its operand
pub extraction : (low : ℕ) (ts rs us : List HwType) (k : ℕ) (t : HwType) → length ts ≡ 2 → length rs ≡ 1 → length us ≡ 1
    → list_any (λ (t : HwType). not (is_int t)) ts ≡ false → any_differs (known_types us) (first_type ts) ≡ false
    → of_both (reaches_past low) (int_width (first_type ts)) (int_width (second_type ts)) ≡ false
    → differ (known_types rs) (second_type ts ∷ []) ≡ false → slice_get rs k ≡ Some t → (u : HwType) × (known_types us ≡ Some u ∷ []) × (low + width t ≤ width u)
extraction low [] rs us k t n m o f h x d e = absurd (omega arith)
extraction low (u ∷ []) rs us k t n m o f h x d e = absurd (omega arith)
extraction low (int w ∷ int v ∷ []) rs us k t n m o f h x d e =
    let g : t ≡ int v = single rs (int v) t k m d e in
    let l : low + v ≤ w = ltb-false w (low + v) x in
    let P : HwType → Type 0 = λ s. low + width s ≤ w in
    (int w, one_agreed us (int w) o (all_agreed us (int w) h), subst P (sym g) l)
extraction low (int w ∷ v ∷ []) rs us k t n m o f h x d e = absurd (apart f)
extraction low (u ∷ v ∷ []) rs us k t n m o f h x d e = absurd (apart f)
extraction low (u ∷ v ∷ s ∷ ts) rs us k t n m o f h x d e = absurd (omega arith)

whole_copies : (w v : ℕ) → (w == 0) || ((v == 0) || not (v % w == 0)) ≡ false → (0 < w) × (v ≡ v / w * w)
whole_copies w v h =
    let a = neither (w == 0) _ h in
    let b = neither (v == 0) _ a.1 in
    let c : v % w ≡ 0 = eqb-true (v % w) 0 (not-false (v % w == 0) b.1) in
    let p : 0 < w = grind (arith, nat_tests, a.0) in
    (p, grind arith)

-- a replicate is a whole number of copies
pub replication : (ts rs us : List HwType) (k : ℕ) (t : HwType) → length ts ≡ 2 → length rs ≡ 1 → length us ≡ 1
    → list_any (λ (t : HwType). not (is_int t)) ts ≡ false → any_differs (known_types us) (first_type ts) ≡ false
    → of_both is_no_multiple (int_width (first_type ts)) (int_width (second_type ts)) ≡ false
    → differ (known_types rs) (second_type ts ∷ []) ≡ false → slice_get rs k ≡ Some t
    → (u : HwType) × (c : ℕ) × (known_types us ≡ Some u ∷ []) × (0 < width u) × (width t ≡ c * width u)
replication [] rs us k t n m o f h x d e = absurd (omega arith)
replication (u ∷ []) rs us k t n m o f h x d e = absurd (omega arith)
replication (int w ∷ int v ∷ []) rs us k t n m o f h x d e =
    let g : t ≡ int v = single rs (int v) t k m d e in
    let p = whole_copies w v x in
    (int w, v / w, one_agreed us (int w) o (all_agreed us (int w) h), p.0, ap width g ∙ p.1)
replication (int w ∷ v ∷ []) rs us k t n m o f h x d e = absurd (apart f)
replication (u ∷ v ∷ []) rs us k t n m o f h x d e = absurd (apart f)
replication (u ∷ v ∷ s ∷ ts) rs us k t n m o f h x d e = absurd (omega arith)

-- the width of joined integers
pub joined_sum : (ts : List HwType) → list_any (λ (t : HwType). not (is_int t)) ts ≡ false → joined_width ts ≡ Some (total (map width ts))
joined_sum [] f = refl
joined_sum (int w ∷ ts) f = rw (joined_sum ts f) refl
joined_sum (t ∷ ts) f = absurd (apart f)

kept_small : (n : ℕ) → n ≤ 128 → kept_size n ≡ n
kept_small n h = omega arith

-- a concat has the sum of its operands' bits
pub concatenation : (ts rs us : List HwType) (k : ℕ) (t : HwType) → length us ≡ length ts → length rs ≡ 1
    → list_any (λ (t : HwType). not (is_int t)) ts ≡ false → differ (known_types us) (known_types ts) ≡ false → is_too_wide (joined_width ts) ≡ false
    → differ (known_types rs) (as_int (joined_width ts) ∷ []) ≡ false → slice_get rs k ≡ Some t
    → (vs : List HwType) × (known_types us ≡ map (λ (u : HwType). Some u) vs) × (width t ≡ total (map width vs))
concatenation ts rs us k t n m f h x d e =
    let same : us ≡ ts = pairwise_agreed us ts n h in
    let sum = joined_sum ts f in
    let y = rw sum at x in
    let l : total (map width ts) ≤ 128 = ltb-false 128 (total (map width ts)) y in
    let g : t ≡ int (kept_size (total (map width ts))) = single rs (int (kept_size (total (map width ts)))) t k m (rw sum at d) e in
    let c : width t ≡ total (map width ts) = ap width g ∙ kept_small (total (map width ts)) l in
    (us, refl, c ∙ ap (λ (vs : List HwType). total (map width vs)) (sym same))

-- three operands of three types, two of two
pub three_agreed : (us : List HwType) (x y z : HwType) → length us ≡ 3 → differ_in_three (known_types us) (Some x) (Some y) (Some z) ≡ false
    → known_types us ≡ Some x ∷ Some y ∷ Some z ∷ []
three_agreed [] x y z n h = absurd (omega arith)
three_agreed (a ∷ []) x y z n h = absurd (omega arith)
three_agreed (a ∷ b ∷ []) x y z n h = absurd (omega arith)
three_agreed (a ∷ b ∷ c ∷ []) x y z n h =
    let p = neither (differs (Some a) (Some x)) _ h in
    let q = neither (differs (Some b) (Some y)) _ p.1 in
    let d : a ≡ x = agreed a x p.0 in
    let e : b ≡ y = agreed b y q.0 in
    let f : c ≡ z = agreed c z q.1 in cc
three_agreed (a ∷ b ∷ c ∷ d ∷ us) x y z n h = absurd (omega arith)

pub pair_agreed : (us : List HwType) (x y : HwType) → length us ≡ 2 → differ_in_two (known_types us) (Some x) (Some y) ≡ false
    → known_types us ≡ Some x ∷ Some y ∷ []
pair_agreed [] x y n h = absurd (omega arith)
pair_agreed (a ∷ []) x y n h = absurd (omega arith)
pair_agreed (a ∷ b ∷ []) x y n h =
    let p = neither (differs (Some a) (Some x)) _ h in
    let d : a ≡ x = agreed a x p.0 in
    let e : b ≡ y = agreed b y p.1 in cc
pair_agreed (a ∷ b ∷ c ∷ us) x y n h = absurd (omega arith)

-- a choice of two
pub choice : (ts rs us : List HwType) (k : ℕ) (t : HwType) → length ts ≡ 1 → length rs ≡ 1 → length us ≡ 3
    → differ_in_three (known_types us) (Some (int 1)) (first_type ts) (first_type ts) ≡ false
    → differ (known_types rs) (first_type ts ∷ []) ≡ false → slice_get rs k ≡ Some t → known_types us ≡ Some (int 1) ∷ Some t ∷ Some t ∷ []
choice [] rs us k t n m o h d e = absurd (omega arith)
choice (u ∷ []) rs us k t n m o h d e =
    let f : t ≡ u = single rs u t k m d e in
    let g = three_agreed us (int 1) u u o h in
    let P : HwType → Type 0 = λ v. known_types us ≡ Some (int 1) ∷ Some v ∷ Some v ∷ [] in subst P (sym f) g
choice (u ∷ v ∷ ts) rs us k t n m o h d e = absurd (omega arith)

-- a bitcast keeps the width
pub recast : (ts rs us : List HwType) (k : ℕ) (t : HwType) → length ts ≡ 2 → length rs ≡ 1 → length us ≡ 1 → any_differs (known_types us) (first_type ts) ≡ false
    → ((u v : HwType) → first_type ts ≡ Some u → second_type ts ≡ Some v → width u ≡ width v)
    → differ (known_types rs) (second_type ts ∷ []) ≡ false → slice_get rs k ≡ Some t → (u : HwType) × (known_types us ≡ Some u ∷ []) × (width u ≡ width t)
recast [] rs us k t n m o h w d e = absurd (omega arith)
recast (u ∷ []) rs us k t n m o h w d e = absurd (omega arith)
recast (u ∷ v ∷ []) rs us k t n m o h w d e =
    let f : t ≡ v = single rs v t k m d e in
    (u, one_agreed us u o (all_agreed us u h), w u v refl refl ∙ ap width (sym f))
recast (u ∷ v ∷ s ∷ ts) rs us k t n m o h w d e = absurd (omega arith)
